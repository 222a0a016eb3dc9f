use Rattle.arrival_measures.specs.Chains.{AreChains}
use Rattle.arrival_measures.proofs.chains.Chains.new.Given as goal

abbrev pub invariant-loop-place : goal.invariant-loop-place
invariant-loop-place l = AreChains l.rows l.place l.heads.items l.next.items
