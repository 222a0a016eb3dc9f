use Rattle.signal_log.specs.Log.{log_of}
use Rattle.rule_audit.proofs.Tracked.{channels_are}
use Rattle.session.proofs.steps.reached_whole.Goals as goal

pub pasts_through-requires-clause-specs : goal.pasts_through-requires-clause-specs
pasts_through-requires-clause-specs c = rw c.specs-2.ensures.value (channels_are c.args.config.now c.specs-2.ensures.sound)

pub pasts_through-requires-clause-shape : goal.pasts_through-requires-clause-shape
pasts_through-requires-clause-shape c = rw c.specs-2.ensures.value c.requires.shape

pub returns-in-Ok-clause-shape : goal.returns-in-Ok-clause-shape
returns-in-Ok-clause-shape c = rw c.specs-2.ensures.value at c.in-Ok.ensures.shape

pub returns-in-Ok-clause-over : goal.returns-in-Ok-clause-over
returns-in-Ok-clause-over c = rw c.specs-2.ensures.value at c.in-Ok.ensures.over

pub returns-in-Ok-clause-pasts : goal.returns-in-Ok-clause-pasts
returns-in-Ok-clause-pasts c = rw c.specs-2.ensures.value at c.in-Ok.ensures.pasts

pub returns-in-Err-clause-stop : goal.returns-in-Err-clause-stop
returns-in-Err-clause-stop c = λ s has is.
    let stop = rw c.specs-2.ensures.value at c.in-Err.ensures.stop in
    c.forward_error.ensures.row (log_of c.args.config.now.specs s) (stop s has is)

pub returns-in-Err-clause-row : goal.returns-in-Err-clause-row
returns-in-Err-clause-row c =
    let stop = rw c.specs-2.ensures.value at c.in-Err.ensures.stop_over in
    c.forward_error.ensures.stop c.args.config.now.specs c.args.place.now.hour c.args.place.now.rows c.args.place.now.blanks c.args.before.now stop

pub courses-requires : goal.courses-requires
courses-requires c = rw c.specs.ensures.value (channels_are c.args.config.now c.specs.ensures.sound)
