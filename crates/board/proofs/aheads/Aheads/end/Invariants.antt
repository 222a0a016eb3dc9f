use Rattle.std.proofs.Common.{◌≡◌, ◌<◌, ℕ, length, get_or, []}
use Rattle.channel_tables.specs.declared.spec.Spec.{Spec}
use Rattle.board.specs.Stops.{rules_at}
use Rattle.board.specs.Hours.{AreEnds}
use Rattle.board.proofs.aheads.Aheads.end.Given as goal

abbrev pub invariant-loop-i : goal.invariant-loop-i
invariant-loop-i l = (length l.aheads.items ≡ l.i) × ((i : ℕ) (d : Spec) → i < l.i → length (get_or l.aheads.items i []) ≡ (rules_at l.specs i d).colours) × AreEnds l.specs l.point l.i l.aheads.items
