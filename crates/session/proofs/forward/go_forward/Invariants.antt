use Rattle.std.proofs.Common.{◌≡◌, ◌+◌, length}
use Rattle.std.specs.Prelude.{IfSome}
use Rattle.session.specs.Links.{HasCourses}
use Rattle.session.specs.Opens.{AreOpened}
use Rattle.session.proofs.StatesLaws.{AreOthers, AreWalked}
use Rattle.session.proofs.forward.go_forward.Given as goal

abbrev pub invariant-loop-hour : goal.invariant-loop-hour
invariant-loop-hour g l = record {
  walked : AreWalked l.config l.store l.first l.kept l.fresh.items l.hour;
  size : l.first + length l.fresh.items ≡ l.hour;
  others : AreOthers l.first l.last l.kept l.fresh.items (l.hour + 1);
  courses : IfSome l.courses (HasCourses l.config l.store l.first);
  opens : AreOpened l.first l.hour 1 1 l.fn.reads l.reads;
}
