use Rattle.std.proofs.Common.{◌≡◌, ◌≤◌, ℕ}
use Rattle.reach.specs.Sets.{set_of}
use Rattle.reach.specs.Holes.{AreFilled}
use Rattle.reach.proofs.run.fill_sets.Given as goal

abbrev pub invariant-loop-colour : goal.invariant-loop-colour
invariant-loop-colour l = AreFilled l.fn.sets l.starts l.holes l.sets l.colour × ((c : ℕ) → l.colour ≤ c → set_of l.sets c ≡ set_of l.fn.sets c)
