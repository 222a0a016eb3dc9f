use Rattle.std.proofs.Common.{◌≡◌, ℕ, ◌+◌, ◌<◌, length, drop, get_or, [], ◌++◌}
use Rattle.channel_tables.specs.declared.spec.Spec.{Spec}
use Rattle.board.proofs.courses.add_rows.Given as goal
use Rattle.board.specs.Channels.{track}
use Rattle.board.specs.Finding.{IsFinder}
use Rattle.board.specs.Moves.{letter_moves}

abbrev pub invariant-loop-row : goal.invariant-loop-row
invariant-loop-row l = IsFinder l.specs l.finder × (l.number ≡ l.fn.first + l.row-index) × ((i : ℕ) (d : Spec) → i < length l.specs → get_or l.courses i [] ++ letter_moves (track (get_or l.specs i d)) l.number (drop l.row-index l.rows) ≡ get_or l.initial.courses i [] ++ letter_moves (track (get_or l.specs i d)) l.fn.first l.rows)
