use Rattle.std.proofs.Common.{◌<◌, ℕ, lit<, subst, sym}
use Rattle.example_hours.proofs.hours.over_both.Goals as goal

pub carried-requires-clause-within : goal.carried-requires-clause-within
carried-requires-clause-within c =
    subst (λ (n : ℕ). 0 < n) (sym c.requires.stored) (lit< tt)

pub carried-requires-clause-before : goal.carried-requires-clause-before
carried-requires-clause-before c = c.in_ok-start.ensures.carry c.args.store.now

pub reaches_end-requires-clause-window : goal.reaches_end-requires-clause-window
reaches_end-requires-clause-window c = c.requires

pub reaches_end-requires-clause-middle : goal.reaches_end-requires-clause-middle
reaches_end-requires-clause-middle c = c.in_ok-middle.ensures
