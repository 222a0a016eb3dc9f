use Rattle.std.proofs.Common.{◌≡◌, ◌-◌, ◌++◌}
use Rattle.demonstration.specs.Texts.{each_hour, blank_line}
use Rattle.demonstration.proofs.script.put_blanks.Given as goal

-- what is there, with what is to come, is all of it
abbrev pub invariant-loop-hour : goal.invariant-loop-hour
invariant-loop-hour l =
    l.out.items ++ each_hour blank_line 4 0 (l.hours - l.hour) l.hour ≡ l.fn.out.items ++ each_hour blank_line 4 0 l.hours 0
