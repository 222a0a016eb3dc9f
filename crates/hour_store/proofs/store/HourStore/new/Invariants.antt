use Rattle.std.proofs.Common.{◌≡◌, replicate, None}
use Rattle.hour_store.proofs.store.HourStore.new.Given as goal

abbrev pub invariant-loop : goal.invariant-loop
invariant-loop g l = l.held.items ≡ replicate l.counter None
