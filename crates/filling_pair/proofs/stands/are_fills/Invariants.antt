use Rattle.std.proofs.Common.{◌↔◌, ◌*◌, length, drop}
use Rattle.hour_store.specs.Store.{is_known}
use Rattle.filling_pair.specs.Strands.{AreFills}
use Rattle.filling_pair.specs.Walking.{track_of}
use Rattle.filling_pair.proofs.stands.are_fills.Given as goal

abbrev pub invariant-loop-fill : goal.invariant-loop-fill
invariant-loop-fill g l = AreFills (track_of l.follower) (is_known l.store) 0 (36000 * length l.store.hours) l.fills ↔ AreFills (track_of l.follower) (is_known l.store) l.low (36000 * length l.store.hours) (drop l.fill-index l.fills)
