use Rattle.std.proofs.Common.{◌↔◌, ℕ, ◌-◌, List, ◌++◌}
use Rattle.sig_base.specs.declared.values.Row.{Row}
use Rattle.channel_tables.specs.Any.{any_rules}
use Rattle.reach.specs.Runs.{State}
use Rattle.sig_base.specs.Reads.{Grow}
use Rattle.filling_pair.specs.Walking.{Fits, Remains, own_hours, track_of}
use Rattle.filling_pair.proofs.hours.pass_hours.Given as goal

abbrev pub invariant-loop-hour : goal.invariant-loop-hour
invariant-loop-hour g l = record {
  grow : Grow l.fn.reads l.reads;
  fits : Fits (any_rules l.follower.machine) l.at.here;
  passed : (b : ℕ) (more : List Row) (u : State) → Remains (track_of l.follower) b (own_hours (track_of l.follower) l.store l.fn.from (l.to - l.fn.from) ++ more) l.fn.cursor.here l.fn.cursor.fills.now u ↔ Remains (track_of l.follower) b (own_hours (track_of l.follower) l.store l.hour (l.to - l.hour) ++ more) l.at.here l.at.fills.now u;
}
