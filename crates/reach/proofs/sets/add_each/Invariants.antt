use Rattle.std.proofs.Common.{◌≡◌, ◌≤◌, ℕ, get_or, []}
use Rattle.reach.specs.Sets.{AreAdded}
use Rattle.reach.proofs.sets.add_each.Given as goal

abbrev pub invariant-loop-colour : goal.invariant-loop-colour
invariant-loop-colour l = AreAdded l.initial.sets l.firsts l.to l.sets l.colour × ((c : ℕ) → l.colour ≤ c → get_or l.sets c [] ≡ get_or l.initial.sets c [])
