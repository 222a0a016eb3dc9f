use Rattle.std.proofs.Common.{◌<◌, ℕ, length, lit<, subst, sym}
use Rattle.example_hours.proofs.Between.{between}
use Rattle.example_hours.proofs.hours.first_hour.Goals as goal

pub are_wanted-requires-clause-agrees : goal.are_wanted-requires-clause-agrees
are_wanted-requires-clause-agrees c =
    let s = c.args.store.now in
    let two = c.requires.stored in
    let lt : 0 < length s.hours = subst (λ (n : ℕ). 0 < n) (sym two) (lit< tt) in
    between c.args.config.now s 0 c.in_ok-before.before c.in_ok-after.after c.requires.is_store lt (c.in_ok-before.ensures.carry s) c.in_ok-after.ensures c.in_ok-reaches_end.ensures

pub carried-requires-clause-within : goal.carried-requires-clause-within
carried-requires-clause-within c =
    subst (λ (n : ℕ). 0 < n) (sym c.requires.stored) (lit< tt)

pub carried-requires-clause-before : goal.carried-requires-clause-before
carried-requires-clause-before c = c.in_ok-before.ensures.carry c.args.store.now

pub reaches_end-requires-clause-window : goal.reaches_end-requires-clause-window
reaches_end-requires-clause-window c = c.requires

pub reaches_end-requires-clause-middle : goal.reaches_end-requires-clause-middle
reaches_end-requires-clause-middle c = c.in_ok-middle.ensures

pub future_between-requires : goal.future_between-requires
future_between-requires c = c.requires
