use Rattle.std.proofs.Common.{◌<◌, ℕ, ◌≤ℤ◌}
use Rattle.reach.specs.Sets.{at}
use Rattle.reach.proofs.run.none_arrives.Given as goal

abbrev pub invariant-loop-colour : goal.invariant-loop-colour
invariant-loop-colour l = (d : ℕ) → d < l.colour → l.to ≤ℤ at l.arrival d
