use Rattle.rule_audit.proofs.Owning.{AreOwnUpTo}
use Rattle.rule_audit.proofs.owners.own_places.Given as goal

abbrev pub invariant-loop-place : goal.invariant-loop-place
invariant-loop-place l = AreOwnUpTo l.view l.rules l.place l.own.items
