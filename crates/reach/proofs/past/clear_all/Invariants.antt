use Rattle.std.proofs.Common.{◌≡◌, ◌<◌, ℕ, length, get_or, []}
use Rattle.reach.proofs.past.clear_all.Given as goal

abbrev pub invariant-loop-set : goal.invariant-loop-set
invariant-loop-set l = (length l.sets ≡ length l.initial.sets) × ((c : ℕ) → c < l.set-index → get_or l.sets c [] ≡ [])
