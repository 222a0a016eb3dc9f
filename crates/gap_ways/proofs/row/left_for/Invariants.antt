use Rattle.gap_ways.specs.Rounds.{NoneLeft}
use Rattle.gap_ways.proofs.row.left_for.Given as goal

abbrev pub invariant-loop-colour : goal.invariant-loop-colour
invariant-loop-colour g l = NoneLeft (g.M.Machine.rules l.machine) l.past l.at l.letter l.to l.colour
