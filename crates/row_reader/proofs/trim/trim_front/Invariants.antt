use Rattle.std.proofs.Common.{◌≡◌, length}
use Rattle.row_reader.specs.Trim.{trim_front}
use Rattle.row_reader.proofs.trim.trim_front.Given as goal

abbrev pub invariant-loop-rest : goal.invariant-loop-rest
invariant-loop-rest l = trim_front l.fn.text ≡ trim_front l.rest

abbrev pub decreases-loop-rest : goal.decreases-loop-rest
decreases-loop-rest l = length l.rest
