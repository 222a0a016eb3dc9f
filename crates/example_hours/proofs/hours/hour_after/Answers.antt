use Rattle.std.proofs.Common.{◌<◌, ℕ, length, lit<, subst, sym}
use Rattle.example_hours.proofs.Between.{between}
use Rattle.example_hours.proofs.hours.hour_after.Goals as goal

pub reaches_end-requires-clause-window : goal.reaches_end-requires-clause-window
reaches_end-requires-clause-window c = c.requires.window

pub reaches_end-requires-clause-middle : goal.reaches_end-requires-clause-middle
reaches_end-requires-clause-middle c = c.requires.before

pub future_at_end-requires : goal.future_at_end-requires
future_at_end-requires c = c.requires.window

pub are_wanted-requires-clause-sound : goal.are_wanted-requires-clause-sound
are_wanted-requires-clause-sound c = c.requires.window.sound

pub are_wanted-requires-clause-agrees : goal.are_wanted-requires-clause-agrees
are_wanted-requires-clause-agrees c =
    let s = c.args.store.now in
    let two = c.requires.window.stored in
    let lt : 1 < length s.hours = subst (λ (n : ℕ). 1 < n) (sym two) (lit< tt) in
    between c.args.config.now s 1 c.args.before.now c.in_ok-after.after c.requires.window.is_store lt c.requires.before c.in_ok-after.ensures c.in_ok-reaches_end.ensures
