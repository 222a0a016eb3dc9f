use Rattle.board.proofs.Verdicts.{ApartUntil}
use Rattle.board.proofs.clause.are_apart.Given as goal

abbrev pub invariant-loop-i : goal.invariant-loop-i
invariant-loop-i l = ApartUntil l.i l.terms
