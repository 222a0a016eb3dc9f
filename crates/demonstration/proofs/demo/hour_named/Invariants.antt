use Rattle.std.proofs.Common.{◌≡◌, ◌-◌}
use Rattle.demonstration.specs.Files.{hour_named}
use Rattle.demonstration.proofs.demo.hour_named.Given as goal

-- no hour so far has the name
abbrev pub invariant-loop-hour : goal.invariant-loop-hour
invariant-loop-hour l = hour_named l.hours 0 l.name ≡ hour_named (l.hours - l.hour) l.hour l.name
