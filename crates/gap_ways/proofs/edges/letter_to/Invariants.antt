use Rattle.gap_ways.specs.Rounds.{NoneOf}
use Rattle.gap_ways.proofs.edges.letter_to.Given as goal

abbrev pub invariant-loop-letter : goal.invariant-loop-letter
invariant-loop-letter g l = NoneOf (g.M.Machine.rules l.machine) l.colour l.to l.letter
