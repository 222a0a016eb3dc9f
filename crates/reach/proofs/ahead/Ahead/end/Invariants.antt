use Rattle.std.proofs.Common.{◌≡◌, ◌<◌, ◌≤◌, ◌-ℤ◌, pos, ℕ, length, Some, None}
use Rattle.reach.specs.Latest.{entry_of}
use Rattle.reach.proofs.ahead.Ahead.end.Given as goal

abbrev pub invariant-loop-colour : goal.invariant-loop-colour
invariant-loop-colour l = (length l.latest ≡ 16) × ((c : ℕ) → c < l.colour → entry_of l.latest c ≡ Some (l.point -ℤ pos 1)) × ((c : ℕ) → l.colour ≤ c → entry_of l.latest c ≡ None)
