use Rattle.std.proofs.Common.{◌↔◌, ℕ, drop}
use Rattle.board.specs.Verdicts.{HasSpec}
use Rattle.filling_pair.specs.Strands.{HasStrand}
use Rattle.filling_pair.proofs.channels.each_term_has.Given as goal

abbrev pub invariant-loop-term : goal.invariant-loop-term
invariant-loop-term l = ((i : ℕ) → HasSpec i l.terms → HasStrand i l.strands) ↔ ((i : ℕ) → HasSpec i (drop l.term-index l.terms) → HasStrand i l.strands)
