use Rattle.std.proofs.Common.{◌≡◌, ◌<◌, ℕ, length, get_or, []}
use Rattle.reach.specs.Sets.{at}
use Rattle.reach.specs.Arrivals.{IsFirst}
use Rattle.gap_ways.proofs.rounds.departures.Given as goal

abbrev pub invariant-loop-colour : goal.invariant-loop-colour
invariant-loop-colour g l = (length l.new ≡ 16) × ((c : ℕ) → c < l.colour → IsFirst (get_or l.past c []) ((g.M.Machine.rules l.machine).floor c) l.from l.to (at l.new c))
