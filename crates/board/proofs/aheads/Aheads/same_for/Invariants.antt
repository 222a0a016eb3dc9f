use Rattle.std.proofs.Common.{◌<◌, ℕ, get_or, []}
use Rattle.board.specs.Places.{SameFor}
use Rattle.board.proofs.aheads.Aheads.same_for.Given as goal

abbrev pub invariant-loop-i : goal.invariant-loop-i
invariant-loop-i l = (k : ℕ) → k < l.i → SameFor (get_or l.pasts k []) (get_or l.self k []) (get_or l.other k [])
