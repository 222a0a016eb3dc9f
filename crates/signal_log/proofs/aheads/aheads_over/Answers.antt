use Rattle.std.proofs.Common.{ap}
use Rattle.board.specs.Courses.{CourseLog}
use Rattle.signal_log.proofs.Calls.{aheads_answer, aheads_answer_over, opened_told}
use Rattle.signal_log.proofs.aheads.aheads_over.Goals as goal

pub aheads_along-requires-clause-hour : goal.aheads_along-requires-clause-hour
aheads_along-requires-clause-hour c =
    let it = opened_told c.args.place.now c.stretches.ensures.opened in
    let same = ap (λ (x : CourseLog). x.rows) (c.in_ok-courses.ensures c.args.place.now.stretches it.cut) in
    (c.args.place.now.hour, rw (same, c.stretches.ensures.value) it.is)

pub returns-clause-aheads : goal.returns-clause-aheads
returns-clause-aheads c =
    let it = opened_told c.args.place.now c.stretches.ensures.opened in
    let same = ap (λ (x : CourseLog). x.rows) (c.in_ok-courses.ensures c.args.place.now.stretches it.cut) in
    aheads_answer c.args.specs.now c.args.place.now.hour c.args.place.now.rows c.args.place.now.blanks c.args.place.now.stretches c.args.after.now it c.aheads_along.result (rw (same, c.stretches.ensures.value) at c.aheads_along.ensures.before) c.requires.specs c.aheads_along.ensures.shape

pub returns-clause-over : goal.returns-clause-over
returns-clause-over c =
    let it = opened_told c.args.place.now c.stretches.ensures.opened in
    let same = ap (λ (x : CourseLog). x.rows) (c.in_ok-courses.ensures c.args.place.now.stretches it.cut) in
    aheads_answer_over c.args.specs.now c.args.place.now.hour c.args.place.now.rows c.args.place.now.blanks c.args.place.now.stretches c.args.after.now it c.aheads_along.result (rw (same, c.stretches.ensures.value) at c.aheads_along.ensures.before)
