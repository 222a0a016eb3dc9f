use Rattle.ring_config.proofs.ParentLaws.{Gathered}
use Rattle.ring_config.proofs.format.references.parents_in.Given as goal

abbrev pub invariant-loop-item : goal.invariant-loop-item
invariant-loop-item l = Gathered l.phases l.items l.item-index l.parents
