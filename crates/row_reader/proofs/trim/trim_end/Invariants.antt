use Rattle.std.proofs.Common.{◌≡◌, length}
use Rattle.row_reader.specs.Trim.{trim_end}
use Rattle.row_reader.proofs.trim.trim_end.Given as goal

abbrev pub invariant-loop-rest : goal.invariant-loop-rest
invariant-loop-rest l = trim_end l.fn.text ≡ trim_end l.rest

abbrev pub decreases-loop-rest : goal.decreases-loop-rest
decreases-loop-rest l = length l.rest
