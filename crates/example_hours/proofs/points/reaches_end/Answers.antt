use Rattle.std.proofs.Common.{◌≡◌, ℕ, ◌+◌, length, arith, subst}
use Rattle.signal_log.specs.Log.{log_of}
use Rattle.signal_log.specs.Points.{ArePastsAt}
use Rattle.signal_log.proofs.Lawful.{some_history}
use Rattle.rule_audit.proofs.Tracked.{channels_are}
use Rattle.example_hours.proofs.points.reaches_end.Goals as goal

pub returns : goal.returns
returns c =
    let log = log_of c.args.config.now.specs c.args.store.now in
    let end = c.in_ok-_end._end.pasts in
    let two = c.requires.window.stored in
    let last : 1 + 1 ≡ length c.args.store.now.hours = omega arith in
    some_history log end (channels_are c.args.config.now c.requires.window.sound) (subst (λ (k : ℕ). ArePastsAt log k end) last c.in_ok-_end.ensures.pasts)
