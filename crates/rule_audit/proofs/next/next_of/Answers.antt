use Rattle.std.proofs.Common.{arith, subst, ◌<◌, ℕ, List, [], length}
use Rattle.std.proofs.lemmas.List.{get_or_default}
use Rattle.rule_audit.specs.Index.{IsSkips}
use Rattle.rule_audit.proofs.Indexing.{is_of_channel}
use Rattle.rule_audit.proofs.next.next_of.Goals as goal

pub returns : goal.returns
returns c =
    let h = c.args.hour.now in
    let size = c.requires.ready.clauses.0 in
    let lt : c.args.channel < length h.clauses.now = omega arith in
    let p = is_of_channel h.specs.now h.rules.now c.args.channel in
    c.next.ensures p (subst (λ (xs : List ℕ). IsSkips p (length h.rules.now) xs) (get_or_default h.clauses.now c.args.channel [] c.index-hour-channel.result lt) (c.requires.ready.clauses.1 c.args.channel c.requires.channel))
