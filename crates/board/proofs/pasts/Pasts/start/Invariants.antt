use Rattle.std.proofs.Common.{◌≡◌, ◌<◌, ℕ, length, get_or, []}
use Rattle.reach.specs.Runs.{State}
use Rattle.reach.specs.Past.{Holds}
use Rattle.channel_tables.specs.declared.spec.Spec.{Spec}
use Rattle.board.specs.Stops.{rules_at}
use Rattle.board.specs.Hours.{AreStarts}
use Rattle.board.proofs.pasts.Pasts.start.Given as goal

abbrev pub invariant-loop-i : goal.invariant-loop-i
invariant-loop-i l = (length l.pasts.items ≡ l.i) × ((i : ℕ) (d : Spec) → i < l.i → (length (get_or l.pasts.items i []) ≡ (rules_at l.specs i d).colours) × ((s : State) × Holds (get_or l.pasts.items i []) s)) × AreStarts l.specs l.i l.pasts.items
