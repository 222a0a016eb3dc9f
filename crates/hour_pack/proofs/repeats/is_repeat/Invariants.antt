use Rattle.std.proofs.Common.{◌≡◌, ◌+◌, ◌≤◌, length}
use Rattle.sig_base.specs.HourRows.{RiseIn}
use Rattle.row_reader.specs.Repeats.{is_repeat}
use Rattle.hour_pack.proofs.repeats.is_repeat.Given as goal

-- the row is a repeat behind all rows before it exactly where it is one behind those that are left
abbrev pub invariant-loop-rest : goal.invariant-loop-rest
invariant-loop-rest l = record {
  same : is_repeat l.fn.before l.row ≡ is_repeat l.rest l.row;
  rise : RiseIn 0 (l.row.at + 1) l.rest;
  few : length l.rest ≤ 400000;
}

abbrev pub decreases-loop-rest : goal.decreases-loop-rest
decreases-loop-rest l = length l.rest
