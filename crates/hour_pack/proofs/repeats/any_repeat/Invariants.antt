use Rattle.std.proofs.Common.{[], take}
use Rattle.row_reader.specs.Repeats.{HasNoRepeat}
use Rattle.hour_pack.proofs.repeats.any_repeat.Given as goal

abbrev pub invariant-loop-i : goal.invariant-loop-i
invariant-loop-i l = HasNoRepeat [] (take l.i l.rows)
