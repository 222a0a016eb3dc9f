use Rattle.std.proofs.Common.{◌≡◌, ◌↔◌, ◌<◌, ◌≤◌, ℕ, ℤ, get_or, [], length}
use Rattle.span_set.specs.Spans.{Member}
use Rattle.colour_machine.specs.Mask.{Has}
use Rattle.reach.proofs.keep.only_sets.Given as goal

abbrev pub invariant-loop-colour : goal.invariant-loop-colour
invariant-loop-colour l = (length l.sets ≡ length l.initial.sets) × ((c : ℕ) → c < l.colour → (e : ℤ) → Member (get_or l.sets c []) e ↔ (Member (get_or l.initial.sets c []) e × Has l.colours c)) × ((c : ℕ) → l.colour ≤ c → get_or l.sets c [] ≡ get_or l.initial.sets c [])
