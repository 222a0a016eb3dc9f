use Rattle.outside.proofs.PutsFacts.{going-end, going-on, going-stopped}
use Rattle.report_text.specs.Shifts.{shift_lines}
use Rattle.report_text.proofs.ShiftLines.{shifts_end, shifts_next}
use Rattle.report_text.proofs.shifts.put_each.Goals as goal

pub returns-in_err-put_shift : goal.returns-in_err-put_shift
returns-in_err-put_shift g c =
    let next = shifts_next c.args.counts.now c.loop-shift.shift 0 c.loop-shift-test.true in
    going-stopped _ _ _ (shift_lines 0 c.args.counts.now) _ _ _ c.from_residual.ensures.0 (rw next at c.loop-shift.invariant) c.in_err-put_shift.ensures

pub loop-shift-preserved : goal.loop-shift-preserved
loop-shift-preserved g c =
    let next = shifts_next c.args.counts.now c.loop-shift.shift 0 c.loop-shift-test.true in
    going-on _ _ _ (shift_lines 0 c.args.counts.now) _ _ (rw next at c.loop-shift.invariant) c.in_ok-put_shift.ensures

pub returns : goal.returns
returns g c =
    going-end _ _ (shift_lines 0 c.args.counts.now) (rw (shifts_end c.args.counts.now c.loop-shift.shift c.loop-shift-test.false) at c.loop-shift.invariant)
