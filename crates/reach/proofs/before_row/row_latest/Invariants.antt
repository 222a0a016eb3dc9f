use Rattle.std.proofs.Common.{◌≡◌, ◌<◌, ◌≤◌, ◌≤ℤ◌, ◌↔◌, ℕ, length, None}
use Rattle.reach.specs.Runs.{State}
use Rattle.reach.specs.Ahead.{Admits, BeforeRow}
use Rattle.reach.specs.Latest.{entry_of}
use Rattle.reach.proofs.before_row.row_latest.Given as goal

abbrev pub invariant-loop-colour : goal.invariant-loop-colour
invariant-loop-colour g l = (length l.new ≡ 16) × ((s : State) → s.colour < l.colour → Admits l.new s ↔ ((s.entry ≤ℤ l.at) × BeforeRow (g.M.Machine.rules l.machine) l.latest l.at l.letter s)) × ((c : ℕ) → l.colour ≤ c → entry_of l.new c ≡ None)
