use Rattle.reach.specs.Last.{AreEntriesAt}
use Rattle.reach.proofs.before_holes.entries_at.Given as goal

abbrev pub invariant-loop-colour : goal.invariant-loop-colour
invariant-loop-colour g l = AreEntriesAt (g.M.Machine.rules l.machine) l.latest l.last l.place l.new l.colour
