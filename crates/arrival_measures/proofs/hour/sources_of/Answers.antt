use Rattle.std.proofs.Common.{◌≡◌, ◌∙◌, ◌+◌, arith}
use Rattle.gap_map.proofs.Following.{follows}
use Rattle.hour_sweep.specs.Hours.{point}
use Rattle.hour_sweep.proofs.Orders.{below_end}
use Rattle.arrival_measures.proofs.hour.sources_of.Goals as goal

pub returns-clause-sources : goal.returns-clause-sources
returns-clause-sources c = λ known before rows hour are_turns h or d.
    let first : c.first_of-first.result ≡ point hour = c.first_of-first.ensures (point hour) (point hour + 36000) (follows known (point hour) (point hour + 36000) _ h.are_stretches) (omega arith) in
    record {
      is_hour = h;
      ordered = or;
      earlier = below_end 0 (point hour) before or;
      turns = c.in_ok-new.ensures ∙ are_turns;
      arrivals = c.in_ok-new-2.ensures ∙ c.deref.ensures.value ∙ d.arrivals;
      faults = c.in_ok-new-3.ensures ∙ c.deref-2.ensures.value ∙ d.faults;
      first = first;
      last = c.is_last.ensures hour first;
    }
