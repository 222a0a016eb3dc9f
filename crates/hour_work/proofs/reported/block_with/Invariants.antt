use Rattle.std.proofs.Common.{◌-◌, ◌*◌, ◌≤◌, drop, take}
use Rattle.hour_work.specs.Numbers.{IsTotal, patched}
use Rattle.hour_work.proofs.reported.block_with.Given as goal

abbrev pub invariant-loop-hour : goal.invariant-loop-hour
invariant-loop-hour l = record {
  from : 27 * l.place ≤ l.hour;
  total : IsTotal (take (l.hour - 27 * l.place) (drop (27 * l.place) (patched l.hours l.from l.parts))) l.total;
}
