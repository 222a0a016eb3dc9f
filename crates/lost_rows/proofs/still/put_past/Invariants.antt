use Rattle.std.proofs.Common.{◌≡◌, ◌↔◌, ◌⊎◌, length}
use Rattle.reach.specs.Runs.{State}
use Rattle.reach.specs.Past.{Holds}
use Rattle.lost_rows.specs.Stills.{LostFromBelow}
use Rattle.lost_rows.proofs.still.put_past.Given as goal

abbrev pub invariant-loop-colour : goal.invariant-loop-colour
invariant-loop-colour g l = (length l.into ≡ length l.fn.into) × ((u : State) → Holds l.into u ↔ (Holds l.fn.into u ⊎ LostFromBelow (g.M.Machine.rules l.machine) l.asked l.still.from l.still.to l.past l.colour u))
