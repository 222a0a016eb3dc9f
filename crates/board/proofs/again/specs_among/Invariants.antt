use Rattle.std.proofs.Common.{◌≡◌, length}
use Rattle.board.specs.Channels.{AreSpecs}
use Rattle.board.specs.Courses.{AreAmong, chosen_before}
use Rattle.board.proofs.Among.{AreOf}
use Rattle.board.proofs.again.specs_among.Given as goal

abbrev pub invariant-loop-i : goal.invariant-loop-i
invariant-loop-i l = record {
  count : length l.few.items ≡ chosen_before l.wanted l.i;
  specs : AreSpecs l.few.items;
  of : AreOf l.specs l.i l.few.items;
  places : AreAmong l.specs l.wanted l.i l.few.items;
}
