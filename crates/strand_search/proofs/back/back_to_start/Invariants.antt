use Rattle.std.proofs.Common.{◌≡◌, ℕ, ◌+◌}
use Rattle.reach.specs.Past.{Holds}
use Rattle.gap_ways.specs.Ways.{state_of}
use Rattle.strand_search.specs.Crossings.{AddsHoursBack}
use Rattle.sig_base.specs.Reads.{Grow}
use Rattle.strand_search.specs.Points.{past_at}
use Rattle.strand_search.proofs.back.back_to_start.Given as goal

abbrev pub invariant-loop-turn : goal.invariant-loop-turn
invariant-loop-turn g l = record {
  held : (h : ℕ) → h + l.turn ≡ l.hour → Holds (past_at l.pasts h) (state_of l.at.here);
  way : (h : ℕ) → h + l.turn ≡ l.hour → AddsHoursBack l.spec l.store h l.hour l.fn.way.rows.items l.at.rows.items (state_of l.at.here) (state_of l.fn.way.here);
  grow : Grow l.fn.reads l.reads;
}
