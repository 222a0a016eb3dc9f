use Rattle.std.proofs.Common.{◌≡◌, ◌+◌, length}
use Rattle.session.specs.Opens.{AreOpened}
use Rattle.session.proofs.BackLaws.{AreOther, IsReturning}
use Rattle.session.proofs.backward.go_back.Given as goal

abbrev pub invariant-loop-hour : goal.invariant-loop-hour
invariant-loop-hour g l = record {
  returning : IsReturning l.config l.store l.told.touched.now.last l.told.kept.now l.fresh.items l.hour;
  size : l.hour + length l.fresh.items ≡ l.told.touched.now.last + 1;
  other : AreOther l.told.touched.now.first l.told.kept.now l.hour l.fresh.items l.hour;
  opens : AreOpened l.hour (l.told.touched.now.last + 1) 1 1 l.fn.reads l.reads;
}
