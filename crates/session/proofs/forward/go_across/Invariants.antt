use Rattle.std.proofs.Common.{◌≡◌, ◌+◌, length}
use Rattle.std.specs.Prelude.{IfSome}
use Rattle.session.specs.Links.{HasCourses}
use Rattle.session.specs.Opens.{AreOpened}
use Rattle.session.proofs.ForwardLaws.{IsGoing, SayOther}
use Rattle.session.proofs.forward.go_across.Given as goal

abbrev pub invariant-loop-hour : goal.invariant-loop-hour
invariant-loop-hour g l = record {
  going : IsGoing l.config l.store l.first l.kept l.fresh.items l.hour;
  size : l.first + length l.fresh.items ≡ l.hour;
  other : SayOther l.first l.last l.kept l.fresh.items (l.hour + 1);
  courses : IfSome l.courses (HasCourses l.config l.store l.first);
  opens : AreOpened l.first l.hour 1 1 l.fn.reads l.reads;
}
