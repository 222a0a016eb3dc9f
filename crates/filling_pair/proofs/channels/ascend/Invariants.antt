use Rattle.std.proofs.Common.{◌↔◌, drop}
use Rattle.filling_pair.specs.Strands.{Ascend}
use Rattle.filling_pair.proofs.channels.ascend.Given as goal

abbrev pub invariant-loop-strand : goal.invariant-loop-strand
invariant-loop-strand l = Ascend 0 l.strands ↔ Ascend l.low (drop l.strand-index l.strands)
