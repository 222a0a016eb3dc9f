use Rattle.rule_audit.proofs.Rows.{within_at}
use Rattle.rule_audit.proofs.due.is_of_some.Goals as goal

pub is_of-requires : goal.is_of-requires
is_of-requires c = rw c.term-item.is (within_at _ c.loop-term.term-index c.term-item.result c.args.terms.now c.requires c.loop-term-test.true)
