use Rattle.std.proofs.Common.{◌↔◌, ℕ, drop}
use Rattle.filling_pair.specs.Strands.{HasStrand, IsAbout}
use Rattle.filling_pair.proofs.channels.all_about.Given as goal

abbrev pub invariant-loop-strand : goal.invariant-loop-strand
invariant-loop-strand l = ((i : ℕ) → HasStrand i l.strands → IsAbout l.rule i) ↔ ((i : ℕ) → HasStrand i (drop l.strand-index l.strands) → IsAbout l.rule i)
