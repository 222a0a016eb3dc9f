use Rattle.std.proofs.Common.{◌≡◌, ◌+◌, ◌-◌, ◌*◌, ◌<◌, [], length}
use Rattle.sig_base.specs.HourRows.{RiseIn}
use Rattle.hour_pack.specs.Reading.{rows_at}
use Rattle.hour_pack.proofs.unpacking.rows_at.Given as goal

-- the rows so far and those that are left are all of them
abbrev pub invariant-loop : goal.invariant-loop
invariant-loop l = record {
  same : rows_at (l.count - l.counter) (36000 * l.hour + 36000) l.last l.kept l.rest
      ≡ rows_at l.count (36000 * l.hour + 36000) (36000 * l.hour) [] l.bytes;
  last : l.last < 36000 * l.hour + 36000;
  rise : RiseIn 0 (l.last + 1) l.kept;
  count : length l.kept ≡ l.counter;
}
