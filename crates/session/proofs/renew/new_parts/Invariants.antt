use Rattle.hour_work.specs.Numbers.{patched}
use Rattle.session.specs.Opens.{AreOpened}
use Rattle.session.specs.Renewed.{AreNewParts}
use Rattle.session.proofs.renew.new_parts.Given as goal

abbrev pub invariant-loop-hour : goal.invariant-loop-hour
invariant-loop-hour g l = record {
  parts : AreNewParts l.config l.store l.worked.carries.items (patched l.worked.futures.items l.ways.from l.ways.futures.items) l.start l.hour l.parts.items;
  opens : AreOpened l.start l.hour 1 1 l.fn.reads l.reads;
}
