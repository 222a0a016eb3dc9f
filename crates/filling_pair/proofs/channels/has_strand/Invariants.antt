use Rattle.std.proofs.Common.{◌↔◌, drop}
use Rattle.filling_pair.specs.Strands.{HasStrand}
use Rattle.filling_pair.proofs.channels.has_strand.Given as goal

abbrev pub invariant-loop-strand : goal.invariant-loop-strand
invariant-loop-strand l = HasStrand l.fn.spec l.strands ↔ HasStrand l.fn.spec (drop l.strand-index l.strands)
