use Rattle.std.proofs.Common.{◌≡◌, drop}
use Rattle.board.specs.Places.{since}
use Rattle.strand_search.proofs.cut.stretches_since.Given as goal

abbrev pub invariant-loop-i : goal.invariant-loop-i
invariant-loop-i l = since l.tenth (drop l.i l.stretches) ≡ since l.tenth l.stretches
