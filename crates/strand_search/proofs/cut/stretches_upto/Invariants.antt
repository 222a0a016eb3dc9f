use Rattle.std.proofs.Common.{◌≡◌, ◌++◌, drop}
use Rattle.board.specs.Places.{upto}
use Rattle.strand_search.proofs.cut.stretches_upto.Given as goal

abbrev pub invariant-loop-stretch : goal.invariant-loop-stretch
invariant-loop-stretch l = l.cut.items ++ upto l.fn.tenth (drop l.stretch-index l.stretches) ≡ upto l.fn.tenth l.stretches
