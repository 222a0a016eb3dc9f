use Rattle.signal_log.specs.Log.{log_of}
use Rattle.rule_audit.proofs.Tracked.{channels_are}
use Rattle.session.proofs.steps.reached_again.Goals as goal

pub pasts_over_again-requires-clause-specs : goal.pasts_over_again-requires-clause-specs
pasts_over_again-requires-clause-specs c = rw c.specs.ensures.value (channels_are c.args.config.now c.specs.ensures.sound)

pub pasts_over_again-requires-clause-shape : goal.pasts_over_again-requires-clause-shape
pasts_over_again-requires-clause-shape c = rw c.specs.ensures.value c.requires.shape

pub returns-in-Ok-clause-shape : goal.returns-in-Ok-clause-shape
returns-in-Ok-clause-shape c = rw c.specs.ensures.value at c.in-Ok.ensures.shape

pub returns-in-Ok-clause-over : goal.returns-in-Ok-clause-over
returns-in-Ok-clause-over c = rw c.specs.ensures.value at c.in-Ok.ensures.over

pub returns-in-Ok-clause-pasts : goal.returns-in-Ok-clause-pasts
returns-in-Ok-clause-pasts c = rw c.specs.ensures.value at c.in-Ok.ensures.pasts

pub returns-in-Err-clause-stop : goal.returns-in-Err-clause-stop
returns-in-Err-clause-stop c = λ s has is.
    let stop = rw c.specs.ensures.value at c.in-Err.ensures.stop in
    c.forward_error.ensures.row (log_of c.args.config.now.specs s) (stop s has is)

pub returns-in-Err-clause-row : goal.returns-in-Err-clause-row
returns-in-Err-clause-row c =
    let stop = rw c.specs.ensures.value at c.in-Err.ensures.stop_over in
    c.forward_error.ensures.stop c.args.config.now.specs c.args.place.now.hour c.args.place.now.rows c.args.place.now.blanks c.args.before.now stop

pub pasts_over_again-requires-clause-was_shape : goal.pasts_over_again-requires-clause-was_shape
pasts_over_again-requires-clause-was_shape c = rw c.specs.ensures.value c.requires.was_shape

pub pasts_over_again-requires-clause-was : goal.pasts_over_again-requires-clause-was
pasts_over_again-requires-clause-was c = rw c.specs.ensures.value c.requires.was
