use Rattle.std.proofs.Common.{◌≡◌, ◌<◌, ℕ, false}
use Rattle.session.specs.Links.{AreKept, waits}
use Rattle.session.specs.Opens.{AreOpenedOnce}
use Rattle.session.proofs.settle.settle_all.Given as goal

abbrev pub invariant-loop-hour : goal.invariant-loop-hour
invariant-loop-hour g l = record {
  carries : l.worked.carries.items ≡ l.fn.worked.carries.items;
  futures : l.worked.futures.items ≡ l.fn.worked.futures.items;
  kept : AreKept l.config l.store l.worked.waiting.items l.worked.carries.items l.worked.futures.items l.worked.report;
  settled : (h : ℕ) → h < l.hour → waits l.worked.waiting.items h ≡ false;
  opens : AreOpenedOnce l.fn.worked.waiting.items l.worked.waiting.items l.fn.reads l.reads;
}
