use Rattle.std.proofs.Common.{◌≡◌, ◌+◌, drop}
use Rattle.board.proofs.courses.count_before.Given as goal
use Rattle.board.specs.Moves.{count_before}

abbrev pub invariant-loop-i : goal.invariant-loop-i
invariant-loop-i l = l.i + count_before l.tenth (drop l.i l.rows) ≡ count_before l.tenth l.rows
