use Rattle.std.proofs.Common.{◌≡◌, ◌+◌, length, reverse}
use Rattle.hour_work.specs.Numbers.{patched}
use Rattle.std.specs.Prelude.{IfSome}
use Rattle.session.specs.Links.{HasCourses}
use Rattle.session.specs.Opens.{AreOpened}
use Rattle.session.specs.Renewed.{AreNewParts}
use Rattle.session.proofs.WorkLaws.{AreWorked}
use Rattle.session.proofs.renew.new_work.Given as goal

abbrev pub invariant-loop-hour : goal.invariant-loop-hour
invariant-loop-hour g l = record {
  worked : AreWorked l.config l.store l.fn.ways.first l.fn.ways.last l.worked.carries.items l.fn.ways.states.items (reverse l.states.items) l.carries.items l.hour;
  size : l.fn.ways.first + length l.carries.items ≡ l.hour;
  parts : AreNewParts l.config l.store (patched l.worked.carries.items (l.fn.ways.first + 1) l.carries.items) (patched l.worked.futures.items l.fn.ways.from l.fn.ways.futures.items) l.fn.ways.first l.hour l.parts.items;
  courses : IfSome l.courses (HasCourses l.config l.store l.fn.ways.first);
  opens : AreOpened l.fn.ways.first l.hour 1 1 l.fn.reads l.reads;
}
