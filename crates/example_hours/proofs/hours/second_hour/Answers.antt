use Rattle.std.proofs.Common.{◌<◌, ℕ, lit<, subst, sym}
use Rattle.example_hours.proofs.hours.second_hour.Goals as goal

pub carried-requires-clause-within : goal.carried-requires-clause-within
carried-requires-clause-within c =
    subst (λ (n : ℕ). 0 < n) (sym c.requires.stored) (lit< tt)

pub carried-requires-clause-before : goal.carried-requires-clause-before
carried-requires-clause-before c = c.in_ok-start.ensures.carry c.args.store.now

pub hour_after-requires-clause-window : goal.hour_after-requires-clause-window
hour_after-requires-clause-window c = c.requires

pub hour_after-requires-clause-before : goal.hour_after-requires-clause-before
hour_after-requires-clause-before c = c.in_ok-before.ensures
