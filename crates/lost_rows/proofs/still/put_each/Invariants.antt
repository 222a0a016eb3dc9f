use Rattle.std.proofs.Common.{◌≡◌, ◌↔◌, ◌⊎◌, length}
use Rattle.reach.specs.Runs.{State}
use Rattle.reach.specs.Past.{Holds}
use Rattle.lost_rows.specs.Stills.{EntersOne}
use Rattle.lost_rows.proofs.still.put_each.Given as goal

abbrev pub invariant-loop-colour : goal.invariant-loop-colour
invariant-loop-colour l = (length l.into ≡ length l.fn.into) × ((u : State) → Holds l.into u ↔ (Holds l.fn.into u ⊎ EntersOne l.mask l.tenths l.colour u))
