use Rattle.std.proofs.Common.{◌≡◌, ◌<◌, ℕ, length, get_or, []}
use Rattle.reach.specs.Sets.{at}
use Rattle.reach.specs.Holes.{IsFirstIn}
use Rattle.reach.proofs.holes.departures.Given as goal

abbrev pub invariant-loop-colour : goal.invariant-loop-colour
invariant-loop-colour g l = (length l.new ≡ 16) × ((c : ℕ) → c < l.colour → IsFirstIn (get_or l.past c []) ((g.M.Machine.rules l.machine).floor c) l.holes l.from l.to (at l.new c))
