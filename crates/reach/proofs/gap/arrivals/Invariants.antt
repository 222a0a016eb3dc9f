use Rattle.std.proofs.Common.{◌≡◌, ◌<◌, ℕ, ◌≤ℤ◌, List, length}
use Rattle.span_set.specs.declared.set.Span.{Span}
use Rattle.reach.specs.Sets.{at}
use Rattle.reach.specs.Arrivals.{AreArrivals, AreDepartures}
use Rattle.reach.proofs.Arriving.{least, total}
use Rattle.reach.proofs.gap.arrivals.Given as goal

abbrev pub invariant-rounds : goal.invariant-rounds
invariant-rounds g l = record {
  size : length l.arrival ≡ 16;
  late : (d : ℕ) → d < 16 → least l.to l.departure ≤ℤ at l.arrival d;
  by_end : (d : ℕ) → d < 16 → at l.arrival d ≤ℤ l.to;
  are : (sets : List (List Span)) → length sets ≡ (g.M.Machine.rules l.machine).colours → AreDepartures (g.M.Machine.rules l.machine) sets l.from l.to l.departure → AreArrivals (g.M.Machine.rules l.machine) sets l.from l.to l.arrival;
}

abbrev pub decreases-rounds : goal.decreases-rounds
decreases-rounds g l = total (least l.to l.departure) l.arrival
