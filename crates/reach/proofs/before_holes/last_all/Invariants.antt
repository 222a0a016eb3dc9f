use Rattle.std.proofs.Common.{◌≡◌, ◌<◌, ◌≤◌, None, ℕ, length}
use Rattle.reach.specs.Latest.{entry_of}
use Rattle.reach.specs.Last.{IsLaterIn}
use Rattle.reach.proofs.before_holes.last_all.Given as goal

abbrev pub invariant-loop-colour : goal.invariant-loop-colour
invariant-loop-colour g l = (length l.new ≡ 16) × ((c : ℕ) → (g.M.Machine.rules l.machine).colours ≤ c → entry_of l.new c ≡ None) × ((c : ℕ) → c < l.colour → IsLaterIn (g.M.Machine.rules l.machine) l.latest l.holes l.last c (g.M.Machine.rules l.machine).letters (entry_of l.new c))
