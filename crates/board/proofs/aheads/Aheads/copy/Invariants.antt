use Rattle.std.proofs.Common.{◌≡◌, take}
use Rattle.board.proofs.aheads.Aheads.copy.Given as goal

abbrev pub invariant-loop-ahead : goal.invariant-loop-ahead
invariant-loop-ahead l = l.aheads.items ≡ take l.ahead-index l.ahead-items
