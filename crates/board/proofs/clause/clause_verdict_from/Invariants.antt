use Rattle.std.proofs.Common.{◌≡◌, ◌↔◌, IsTrue, true, length, take}
use Rattle.gap_map.specs.Stretches.{known_at}
use Rattle.board.specs.Verdicts.{FailEach, HoldOne, MayPass}
use Rattle.board.proofs.clause.clause_verdict_from.Given as goal

abbrev pub invariant-loop-i : goal.invariant-loop-i
invariant-loop-i l = (length l.cursors ≡ length l.fn.cursors) × (known_at l.view.stretches l.at ≡ true → FailEach (MayPass l.view l.at) (take l.i l.terms) × (IsTrue l.some ↔ HoldOne (MayPass l.view l.at) (take l.i l.terms)))
