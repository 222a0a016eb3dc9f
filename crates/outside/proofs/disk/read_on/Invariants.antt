use Rattle.std.proofs.Common.{◌≡◌, ◌++◌, length, ◌-◌, ◌+◌, ℕ, List}
use Rattle.outside.proofs.disk.read_on.Given as goal

-- what was there, and a piece after it
abbrev pub invariant-loop-buffer : goal.invariant-loop-buffer
invariant-loop-buffer g l = (l.start ≡ length l.initial.into.items) × ((piece : List ℕ) × (l.into.items ≡ l.initial.into.items ++ piece))

abbrev pub decreases-loop-buffer : goal.decreases-loop-buffer
decreases-loop-buffer g l = l.limit + 1 - (length l.into.items - l.start)
