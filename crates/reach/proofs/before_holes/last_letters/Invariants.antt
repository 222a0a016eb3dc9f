use Rattle.reach.specs.Last.{IsLaterIn}
use Rattle.reach.proofs.before_holes.last_letters.Given as goal

abbrev pub invariant-loop-letter : goal.invariant-loop-letter
invariant-loop-letter g l = IsLaterIn (g.M.Machine.rules l.machine) l.latest l.holes l.last l.colour l.letter l.hole
