use Rattle.std.proofs.Common.{◌-◌, ◌≡◌, ◌++◌}
use Rattle.demonstration.specs.Rows.{services}
use Rattle.demonstration.proofs.rows.put_services.Given as goal

-- what is there, with what is to come, is all of it
abbrev pub invariant-loop-at : goal.invariant-loop-at
invariant-loop-at l = l.rows.items ++ services (l.end - l.at) l.end l.x l.at l.phase ≡ l.fn.rows.items ++ services l.end l.end 1 0 2

abbrev pub decreases-loop-at : goal.decreases-loop-at
decreases-loop-at l = l.end - l.at
