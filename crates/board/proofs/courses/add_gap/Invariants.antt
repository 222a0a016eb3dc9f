use Rattle.std.proofs.Common.{◌≡◌, ℕ, ◌<◌, ◌≤◌, get_or, [], ◌∷◌, ◌++◌}
use Rattle.channel_path.specs.declared.moves.Move.TheVariants.{Gap}
use Rattle.board.proofs.courses.add_gap.Given as goal

abbrev pub invariant-loop-course : goal.invariant-loop-course
invariant-loop-course l = ((k : ℕ) → k < l.course-index → get_or l.courses k [] ≡ get_or l.initial.courses k [] ++ Gap l.from l.to ∷ []) × ((k : ℕ) → l.course-index ≤ k → get_or l.courses k [] ≡ get_or l.initial.courses k [])
