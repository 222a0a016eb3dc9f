use Rattle.gap_ways.specs.Ways.{state_of}
use Rattle.strand_search.specs.Crossings.{AddsHours, GoesOn}
use Rattle.sig_base.specs.Reads.{Grow}
use Rattle.strand_search.proofs.onward.on_to_end.Given as goal

abbrev pub invariant-loop-hour : goal.invariant-loop-hour
invariant-loop-hour g l = record {
  here : GoesOn l.spec l.store l.hour l.at.here;
  way : AddsHours l.spec l.store l.from l.hour l.fn.way.rows.items l.at.rows.items (state_of l.fn.way.here.state) (state_of l.at.here.state);
  grow : Grow l.fn.reads l.reads;
}
