use Rattle.std.proofs.Common.{◌≡◌, ◌+◌, length, get_or}
use Rattle.hour_store.specs.Store.{Store}
use Rattle.hour_work.specs.Points.{Carried, IsCarryAt}
use Rattle.session.proofs.begin.start_with.Given as goal

abbrev pub invariant-loop : goal.invariant-loop
invariant-loop l = record {
  size : length l.carries.items ≡ l.counter + 1;
  start : (d : Carried) (r : Store) → IsCarryAt l.config r 0 (get_or l.carries.items 0 d);
}
