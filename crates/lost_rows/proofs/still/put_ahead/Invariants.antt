use Rattle.std.proofs.Common.{◌≡◌, ◌↔◌, ◌⊎◌, ◌<◌, length}
use Rattle.reach.specs.Runs.{State}
use Rattle.reach.specs.Ahead.{Admits}
use Rattle.lost_rows.specs.Stills.{LostToBelow}
use Rattle.lost_rows.proofs.still.put_ahead.Given as goal

abbrev pub invariant-loop-colour : goal.invariant-loop-colour
invariant-loop-colour g l = (length l.into ≡ length l.fn.into) × ((s : State) → Admits l.into s ↔ (Admits l.fn.into s ⊎ ((s.colour < l.colour) × LostToBelow (g.M.Machine.rules l.machine) l.still.from l.still.to l.ahead (g.M.Machine.rules l.machine).colours s.colour s.entry)))
