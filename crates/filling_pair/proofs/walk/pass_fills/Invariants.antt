use Rattle.std.proofs.Common.{◌≡◌, drop}
use Rattle.channel_tables.specs.Any.{any_rules}
use Rattle.filling_pair.specs.Walking.{Fits, since, track_of}
use Rattle.filling_pair.proofs.Passing.{Walked}
use Rattle.filling_pair.proofs.walk.pass_fills.Given as goal

abbrev pub invariant-loop-i : goal.invariant-loop-i
invariant-loop-i l = record {
  fits : Fits (any_rules l.follower.machine) l.here;
  rest : since l.until (drop l.i l.fills) ≡ since l.until l.fills;
  walked : Walked (track_of l.follower) l.until l.fn.cursor.here l.fills l.here (drop l.i l.fills);
}
