use Rattle.std.proofs.Common.{◌-◌, ◌≤◌, length, reverse}
use Rattle.reach.specs.Arrivals.{AreArrivals}
use Rattle.gap_ways.specs.Rounds.{AreRounds}
use Rattle.gap_ways.proofs.Layers.{Behind}
use Rattle.gap_ways.proofs.rounds.run_rounds.Given as goal

abbrev pub invariant-rounds : goal.invariant-rounds
invariant-rounds g l = record {
  arrivals : AreArrivals (g.M.Machine.rules l.machine) l.past l.from l.to l.arrival;
  rounds : AreRounds (g.M.Machine.rules l.machine) l.from l.to l.departure (reverse l.tables.items) l.arrival;
  behind : Behind (g.M.Machine.rules l.machine) l.departure (length l.tables.items) l.arrival;
  few : length l.tables.items ≤ 16;
}

abbrev pub decreases-rounds : goal.decreases-rounds
decreases-rounds g l = 16 - length l.tables.items
