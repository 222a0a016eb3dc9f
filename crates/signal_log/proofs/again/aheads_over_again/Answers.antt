use Rattle.signal_log.proofs.Calls.{aheads_answer, aheads_answer_over, aheads_was, opened_told}
use Rattle.signal_log.proofs.again.aheads_over_again.Goals as goal

pub aheads_again-requires-clause-hour : goal.aheads_again-requires-clause-hour
aheads_again-requires-clause-hour c =
    let it = opened_told c.args.place.now c.stretches.ensures.opened in
    (c.args.place.now.hour, rw (c.rows.ensures.value, c.stretches.ensures.value) it.is)

pub aheads_again-requires-clause-was : goal.aheads_again-requires-clause-was
aheads_again-requires-clause-was c =
    let it = opened_told c.args.place.now c.stretches.ensures.opened in
    rw (c.rows.ensures.value, c.stretches.ensures.value) (aheads_was c.args.specs.now c.args.place.now.hour c.args.place.now.rows c.args.place.now.blanks c.args.place.now.stretches c.args.was.now.after.now c.args.was.now.before.now it c.requires.was)

pub returns-clause-aheads : goal.returns-clause-aheads
returns-clause-aheads c =
    let it = opened_told c.args.place.now c.stretches.ensures.opened in
    aheads_answer c.args.specs.now c.args.place.now.hour c.args.place.now.rows c.args.place.now.blanks c.args.place.now.stretches c.args.after.now it c.aheads_again.result (rw (c.rows.ensures.value, c.stretches.ensures.value) at c.aheads_again.ensures.before) c.requires.specs c.aheads_again.ensures.shape

pub returns-clause-over : goal.returns-clause-over
returns-clause-over c =
    let it = opened_told c.args.place.now c.stretches.ensures.opened in
    aheads_answer_over c.args.specs.now c.args.place.now.hour c.args.place.now.rows c.args.place.now.blanks c.args.place.now.stretches c.args.after.now it c.aheads_again.result (rw (c.rows.ensures.value, c.stretches.ensures.value) at c.aheads_again.ensures.before)
