use Rattle.std.proofs.Common.{◌≡◌, ◌≤◌, false, length, take}
use Rattle.row_reader.specs.Repeats.{is_repeat}
use Rattle.row_reader.proofs.look_back.has_event.Given as goal

-- where the row is no repeat behind the rows that are left, it is none behind all
abbrev pub invariant-loop-left : goal.invariant-loop-left
invariant-loop-left l = record {
  none : is_repeat (take l.left l.kept) l.row ≡ false → is_repeat l.kept l.row ≡ false;
  within : l.left ≤ length l.kept;
}

abbrev pub decreases-loop-left : goal.decreases-loop-left
decreases-loop-left l = l.left
