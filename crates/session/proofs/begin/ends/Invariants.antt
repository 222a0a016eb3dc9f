use Rattle.std.proofs.Common.{◌≡◌, ◌<◌, ℕ, get_or, length}
use Rattle.hour_store.specs.Store.{Store}
use Rattle.hour_work.specs.Points.{IsFutureAt}
use Rattle.session.specs.Links.{Ahead}
use Rattle.session.proofs.begin.ends.Given as goal

abbrev pub invariant-loop : goal.invariant-loop
invariant-loop l = record {
  size : length l.futures.items ≡ l.counter;
  all : (k : ℕ) (d : Ahead) → k < length l.futures.items → (r : Store) → length r.hours ≡ l.config.window.hours → IsFutureAt l.config r (length r.hours) (get_or l.futures.items k d);
}
