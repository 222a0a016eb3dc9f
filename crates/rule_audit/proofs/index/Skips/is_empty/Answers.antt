use Rattle.std.proofs.Common.{eqb-true, eq-eqb}
use Rattle.rule_audit.proofs.Indexing.{none_from, over_from}
use Rattle.rule_audit.proofs.index.Skips.is_empty.Goals as goal

pub returns : goal.returns
returns c = λ p are.
    let next = c.next.ensures p are in
    (λ is. none_from p c.args.count c.next.result next (eqb-true c.next.result c.args.count is), λ none. eq-eqb c.next.result c.args.count (over_from p c.args.count c.next.result next none))
