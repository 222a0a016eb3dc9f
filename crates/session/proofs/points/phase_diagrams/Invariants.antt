use Rattle.std.proofs.Common.{◌≡◌}
use Rattle.hour_sweep.specs.Sums.{own}
use Rattle.hour_store.specs.Store.{is_known}
use Rattle.arrival_measures.specs.Points.{points_from}
use Rattle.hour_work.specs.Rows.{earlier_rows, own_rows}
use Rattle.hour_work.specs.Measures.{cycles_in, over_hours}
use Rattle.sig_base.specs.Reads.{Grow}
use Rattle.session.proofs.points.phase_diagrams.Given as goal

abbrev pub invariant-loop-hour : goal.invariant-loop-hour
invariant-loop-hour g l = record {
  phase : l.found.phase ≡ l.phase;
  cycles : l.found.cycles.items ≡ own (λ x. x.phase) l.phase (over_hours (cycles_in l.config l.store) l.hour);
  points : l.found.points ≡ over_hours (λ hour. points_from (is_known l.store) l.config l.phase (earlier_rows l.store hour) (own_rows l.store hour)) l.hour;
  grow : Grow l.fn.reads l.reads;
}
