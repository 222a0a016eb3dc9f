use Rattle.std.proofs.Common.{◌≡◌, ◌≤◌, length, take}
use Rattle.row_reader.specs.Repeats.{is_repeat}
use Rattle.row_reader.proofs.look_back.ends_group.Given as goal

-- the row is a repeat behind all rows exactly where it is one behind those that are left
abbrev pub invariant-loop-left : goal.invariant-loop-left
invariant-loop-left l = record {
  same : is_repeat l.kept l.row ≡ is_repeat (take l.left l.kept) l.row;
  within : l.left ≤ length l.kept;
}

abbrev pub decreases-loop-left : goal.decreases-loop-left
decreases-loop-left l = l.left
