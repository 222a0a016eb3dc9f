use Rattle.std.proofs.Common.{◌≡◌, ◌≤◌, ℕ, get_or, []}
use Rattle.reach.specs.Sets.{IsRebuilt}
use Rattle.reach.proofs.sets.settle_each.Given as goal

abbrev pub invariant-loop-colour : goal.invariant-loop-colour
invariant-loop-colour l = IsRebuilt l.initial.sets l.keep l.enter l.tenth l.sets l.colour × ((c : ℕ) → l.colour ≤ c → get_or l.sets c [] ≡ get_or l.initial.sets c [])
