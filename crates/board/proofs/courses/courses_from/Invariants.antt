use Rattle.std.proofs.Common.{◌≡◌, ℕ, ◌<◌, ◌≤◌, length, drop, get_or, [], ◌++◌}
use Rattle.channel_tables.specs.declared.spec.Spec.{Spec}
use Rattle.board.proofs.courses.courses_from.Given as goal
use Rattle.board.specs.Channels.{track}
use Rattle.board.specs.Finding.{IsFinder}
use Rattle.board.specs.Moves.{own}

abbrev pub invariant-loop-stretch : goal.invariant-loop-stretch
invariant-loop-stretch l = IsFinder l.specs l.finder × (l.next ≤ length l.rows) × (length l.courses.items ≡ length l.specs) × ((i : ℕ) (d : Spec) → i < length l.specs → get_or l.courses.items i [] ++ own (track (get_or l.specs i d)) l.next (drop l.next l.rows) (drop l.stretch-index l.stretches) ≡ own (track (get_or l.specs i d)) l.first (drop l.first l.rows) l.stretches)
