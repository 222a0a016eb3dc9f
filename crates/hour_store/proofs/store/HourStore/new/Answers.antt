use Rattle.std.proofs.Common.{◌≡◌, arith, replicate}
use Rattle.hour_store.proofs.StoreLaws.{nothing, nothing_is_store, nothing_counted}
use Rattle.hour_store.proofs.store.HourStore.new.Goals as goal

pub invariant_of-result : goal.invariant_of-result
invariant_of-result g c =
    let i : c.loop.held.items ≡ replicate c.loop.counter nothing = c.loop.invariant in
    let n : c.loop.counter ≡ c.args.hours = omega arith in
    rw (c.new.ensures, i, n) (nothing_is_store c.args.hours c.requires.some c.requires.few, nothing_counted c.args.hours)
