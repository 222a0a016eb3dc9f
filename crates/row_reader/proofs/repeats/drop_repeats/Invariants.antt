use Rattle.std.proofs.Common.{◌*◌, ◌+◌, drop}
use Rattle.row_reader.specs.Noted.{IsNoted}
use Rattle.row_reader.proofs.RepeatFacts.{IsKept}
use Rattle.row_reader.proofs.repeats.drop_repeats.Given as goal

abbrev pub invariant-loop-row : goal.invariant-loop-row
invariant-loop-row l = record {
  noted : IsNoted l.noted l.kept.items;
  kept : IsKept (36000 * l.fn.hour) (36000 * l.fn.hour + 36000) l.rows l.kept.items (drop l.row-index l.rows);
}
