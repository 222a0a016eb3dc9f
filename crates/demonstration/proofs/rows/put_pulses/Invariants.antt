use Rattle.std.proofs.Common.{◌-◌, ◌≡◌, ◌++◌}
use Rattle.demonstration.specs.Rows.{pulses}
use Rattle.demonstration.proofs.rows.put_pulses.Given as goal

-- what is there, with what is to come, is all of it
abbrev pub invariant-loop-at : goal.invariant-loop-at
invariant-loop-at l = l.rows.items ++ pulses (l.end - l.at) l.end l.x l.at ≡ l.fn.rows.items ++ pulses l.end l.end 7 0

abbrev pub decreases-loop-at : goal.decreases-loop-at
decreases-loop-at l = l.end - l.at
