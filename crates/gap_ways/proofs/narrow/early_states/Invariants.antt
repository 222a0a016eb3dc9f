use Rattle.std.proofs.Common.{◌≡◌, ◌↔◌, ◌<◌, ◌<ℤ◌, length}
use Rattle.reach.specs.Runs.{State}
use Rattle.reach.specs.Past.{Holds}
use Rattle.gap_ways.proofs.narrow.early_states.Given as goal

abbrev pub invariant-loop-colour : goal.invariant-loop-colour
invariant-loop-colour g l = (length l.early ≡ length l.past) × ((s : State) → Holds l.early s ↔ (Holds l.past s × (s.colour < l.colour → s.entry <ℤ l.from)))
