use Rattle.std.proofs.lemmas.Bool.{not-false}
use Rattle.rule_audit.proofs.owners.is_ruled.Goals as goal

pub returns-else-not-is_empty : goal.returns-else-not-is_empty
returns-else-not-is_empty c = λ p q a b off x lt. ((c.is_empty.ensures p a).0 c.if-not-is_empty.false x lt, (c.is_empty-else-not-is_empty.ensures q b).0 (not-false c.is_empty-else-not-is_empty.result off) x lt)
