use Rattle.std.proofs.Common.{◌≡◌, take}
use Rattle.board.proofs.pasts.Pasts.copy.Given as goal

abbrev pub invariant-loop-past : goal.invariant-loop-past
invariant-loop-past l = l.pasts.items ≡ take l.past-index l.past-items
