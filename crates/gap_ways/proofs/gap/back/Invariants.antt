use Rattle.std.proofs.Common.{◌+◌, ◌≤◌, ℕ, length, reverse}
use Rattle.gap_ways.specs.Rounds.{InGap, InRounds}
use Rattle.gap_ways.specs.Ways.{Added}
use Rattle.gap_ways.proofs.gap.back.Given as goal

abbrev pub invariant-back : goal.invariant-back
invariant-back g l = record {
  within : InGap (g.M.Machine.rules l.machine) l.from l.to l.here;
  rounds : InRounds (g.M.Machine.rules l.machine) l.from l.to l.departure (reverse l.tables.items) l.here;
  way : (n : ℕ) × (n + length l.tables.items ≤ 16) × Added (g.M.Machine.rules l.machine) l.here.entry l.to n l.fn.fills.items l.fills.items l.here l.fn.target;
}

abbrev pub decreases-back : goal.decreases-back
decreases-back g l = length l.tables.items
