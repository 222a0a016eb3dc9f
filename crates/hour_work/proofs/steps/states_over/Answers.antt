use Rattle.std.proofs.Common.{◌≡◌, ℕ, ◌+◌, arith, subst, sym}
use Rattle.board.specs.Logs.{end_tenth, first_tenth}
use Rattle.board.specs.Places.{AllEarly}
use Rattle.signal_log.specs.Log.{log_of}
use Rattle.signal_log.specs.Over.{ArePastsOver}
use Rattle.hour_work.specs.Points.{Carried, FitPoint, IsCarryAt, NamesStop}
use Rattle.rule_audit.proofs.Tracked.{channels_are}
use Rattle.hour_work.proofs.steps.states_over.Goals as goal

pub pasts_over-requires-clause-specs : goal.pasts_over-requires-clause-specs
pasts_over-requires-clause-specs c = rw c.specs.ensures.value (channels_are c.args.config.now c.specs.ensures.sound)

pub pasts_over-requires-clause-shape : goal.pasts_over-requires-clause-shape
pasts_over-requires-clause-shape c = rw c.specs.ensures.value (subst (λ (v : Carried). FitPoint c.args.config.now c.args.place.now.hour v) (sym c.before-2.view_is) c.requires.fit).shape

pub returns-in-Err-clause-stop : goal.returns-in-Err-clause-stop
returns-in-Err-clause-stop c = λ s has is.
    let cfg = c.args.config.now in
    let carry = subst (λ (v : Carried). IsCarryAt cfg s c.args.place.now.hour v) (sym c.before-2.view_is) is in
    let stop = rw c.specs.ensures.value at c.in-Err.ensures.stop in
    c.forward_error.ensures.row (log_of cfg.specs s) (stop s has carry.pasts)

pub returns-in-Err-clause-stop_over : goal.returns-in-Err-clause-stop_over
returns-in-Err-clause-stop_over c =
    let cfg = c.args.config.now in
    let stop = rw c.specs.ensures.value at c.in-Err.ensures.stop_over in
    let rows = c.args.place.now.rows in
    let blanks = c.args.place.now.blanks in
    subst (λ (v : Carried). NamesStop cfg.specs c.args.place.now.hour rows blanks v.pasts c.forward_error.result) c.before-2.view_is (c.forward_error.ensures.stop cfg.specs c.args.place.now.hour rows blanks _ stop)

pub returns-in-Ok-clause-over : goal.returns-in-Ok-clause-over
returns-in-Ok-clause-over c =
    let cfg = c.args.config.now in
    let over = rw c.specs.ensures.value at c.in-Ok.ensures.over in
    subst (λ (v : Carried). ArePastsOver cfg.specs c.args.place.now.hour c.args.place.now.rows c.args.place.now.blanks v.pasts c.in-Ok.pasts) c.before-2.view_is over

pub returns-in-Ok-clause-shape : goal.returns-in-Ok-clause-shape
returns-in-Ok-clause-shape c =
    let shape = rw c.specs.ensures.value at c.in-Ok.ensures.shape in
    let at : end_tenth c.args.place.now.hour ≡ first_tenth (c.args.place.now.hour + 1) = omega arith in
    (shape.0, subst (λ (t : ℕ). AllEarly t c.in-Ok.pasts) at shape.1)
