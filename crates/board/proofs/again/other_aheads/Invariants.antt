use Rattle.std.proofs.Common.{◌≡◌, ◌<◌, ℕ, false, length, get_or, []}
use Rattle.board.proofs.again.other_aheads.Given as goal

abbrev pub invariant-loop-place : goal.invariant-loop-place
invariant-loop-place l = (length l.others.items ≡ l.place) × ((i : ℕ) → i < l.place → get_or l.others.items i false ≡ false → get_or l.a i [] ≡ get_or l.b i [])
