use Rattle.std.proofs.Common.{◌≡◌, length}
use Rattle.board.specs.Courses.{chosen_before}
use Rattle.board.specs.Hours.{AreAlikeBut}
use Rattle.board.proofs.again.unmet.Given as goal

abbrev pub invariant-loop-i : goal.invariant-loop-i
invariant-loop-i l = record {
  count : length l.unmet.items ≡ l.i;
  next : l.next ≡ chosen_before l.others.items l.i;
  alike : AreAlikeBut l.specs l.rows l.stretches l.after l.was_after l.unmet.items l.i;
}
