use Rattle.std.proofs.Common.{◌≡◌, ◌<◌, ℕ, length, get_or, []}
use Rattle.channel_tables.specs.declared.spec.Spec.{Spec}
use Rattle.board.specs.Logs.{IsHour, first_tenth, end_tenth}
use Rattle.board.specs.Stops.{rules_at}
use Rattle.board.specs.Hours.{AreHourAheads}
use Rattle.board.proofs.between.aheads_between.Given as goal

abbrev pub invariant-loop-i : goal.invariant-loop-i
invariant-loop-i l = (length l.aheads.items ≡ l.i) × ((i : ℕ) (d : Spec) → i < l.i → length (get_or l.aheads.items i []) ≡ (rules_at l.specs i d).colours) × ((h : ℕ) → IsHour h l.courses.rows l.stretches → AreHourAheads l.specs l.courses.rows l.stretches (first_tenth h) (end_tenth h) l.after l.i l.aheads.items)
