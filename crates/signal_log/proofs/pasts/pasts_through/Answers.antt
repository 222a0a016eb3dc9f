use Rattle.signal_log.proofs.Calls.{pasts_answer, pasts_answer_over, pasts_shape, stop_answer, stop_answer_over, opened_told}
use Rattle.signal_log.proofs.pasts.pasts_through.Goals as goal

pub pasts_along-requires-clause-hour : goal.pasts_along-requires-clause-hour
pasts_along-requires-clause-hour c =
    let it = opened_told c.args.place.now c.stretches.ensures.opened in
    (c.args.place.now.hour, rw (c.rows.ensures.value, c.stretches.ensures.value) it.is, c.requires.early)

pub returns-clause-shape : goal.returns-clause-shape
returns-clause-shape c =
    let it = opened_told c.args.place.now c.stretches.ensures.opened in
    pasts_shape c.args.specs.now c.args.place.now.hour c.args.place.now.rows c.args.place.now.blanks c.args.place.now.stretches c.args.before.now it c.pasts_along.result c.pasts_along.ensures.shape (rw (c.rows.ensures.value, c.stretches.ensures.value) at c.pasts_along.ensures.early)

pub returns-clause-pasts : goal.returns-clause-pasts
returns-clause-pasts c =
    let it = opened_told c.args.place.now c.stretches.ensures.opened in
    pasts_answer c.args.specs.now c.args.place.now.hour c.args.place.now.rows c.args.place.now.blanks c.args.place.now.stretches c.args.before.now it c.pasts_along.result c.requires.specs (returns-clause-shape c) (rw (c.rows.ensures.value, c.stretches.ensures.value) at c.pasts_along.ensures.pasts)

pub returns-clause-stop : goal.returns-clause-stop
returns-clause-stop c =
    let it = opened_told c.args.place.now c.stretches.ensures.opened in
    stop_answer c.args.specs.now c.args.place.now.hour c.args.place.now.rows c.args.place.now.blanks c.args.place.now.stretches c.args.before.now it c.pasts_along.result c.requires.specs (rw (c.rows.ensures.value, c.stretches.ensures.value) at c.pasts_along.ensures.stop)

pub returns-clause-over : goal.returns-clause-over
returns-clause-over c =
    let it = opened_told c.args.place.now c.stretches.ensures.opened in
    pasts_answer_over c.args.specs.now c.args.place.now.hour c.args.place.now.rows c.args.place.now.blanks c.args.place.now.stretches c.args.before.now it c.pasts_along.result (rw (c.rows.ensures.value, c.stretches.ensures.value) at c.pasts_along.ensures.pasts)

pub returns-clause-stop_over : goal.returns-clause-stop_over
returns-clause-stop_over c =
    let it = opened_told c.args.place.now c.stretches.ensures.opened in
    stop_answer_over c.args.specs.now c.args.place.now.hour c.args.place.now.rows c.args.place.now.blanks c.args.place.now.stretches c.args.before.now it c.pasts_along.result (rw (c.rows.ensures.value, c.stretches.ensures.value) at c.pasts_along.ensures.stop)
