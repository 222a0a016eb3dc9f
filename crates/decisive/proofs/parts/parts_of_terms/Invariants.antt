use Rattle.std.proofs.Common.{◌≡◌, map, take}
use Rattle.decisive.specs.Parts.{term_part}
use Rattle.decisive.proofs.parts.parts_of_terms.Given as goal

abbrev pub invariant-loop-term : goal.invariant-loop-term
invariant-loop-term l = l.parts.items ≡ map term_part (take l.term-index l.terms)
