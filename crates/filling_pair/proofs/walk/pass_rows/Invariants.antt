use Rattle.std.proofs.Common.{drop}
use Rattle.channel_tables.specs.Any.{any_rules}
use Rattle.filling_pair.specs.Walking.{Fits, track_of}
use Rattle.filling_pair.proofs.Passing.{Passed}
use Rattle.filling_pair.proofs.walk.pass_rows.Given as goal

abbrev pub invariant-loop-row : goal.invariant-loop-row
invariant-loop-row l = record {
  fits : Fits (any_rules l.follower.machine) l.at.here;
  passed : Passed (track_of l.follower) l.blanked l.fn.cursor.here l.fn.cursor.fills.now l.rows l.at.here l.at.fills.now (drop l.row-index l.rows);
}
