use Rattle.std.proofs.Common.{◌-◌, ◌≤◌, ◌≤ℤ◌, ◌-ℤ◌, ◌+ℤ◌, pos}
use Rattle.reach.specs.Sets.{set_of}
use Rattle.gap_ways.proofs.Asking.{IsSearched}
use Rattle.gap_ways.proofs.ask.first_old.Given as goal

abbrev pub invariant-search : goal.invariant-search
invariant-search g l = (l.low ≤ l.high) × (pos l.high ≤ℤ (l.to -ℤ l.from)) × IsSearched (set_of l.past l.colour) ((g.M.Machine.rules l.machine).floor l.colour) l.from l.to (l.from +ℤ pos l.low) (l.from +ℤ pos l.high)

abbrev pub decreases-search : goal.decreases-search
decreases-search g l = l.high - l.low
