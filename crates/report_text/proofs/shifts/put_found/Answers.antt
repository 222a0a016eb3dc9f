use Rattle.outside.proofs.PutsFacts.{front-stopped, puts-then}
use Rattle.report_text.specs.Shifts.{best_line, shift_lines}
use Rattle.report_text.proofs.shifts.put_found.Goals as goal

pub returns-in_err-put_best : goal.returns-in_err-put_best
returns-in_err-put_best g c =
    let counts = c.args.shifts.now in
    front-stopped _ _ (best_line counts c.args.arrivals) (shift_lines 0 counts) _ c.from_residual.ensures.0 c.in_err-put_best.ensures

pub returns : goal.returns
returns g c =
    let counts = c.args.shifts.now in
    puts-then _ _ _ (best_line counts c.args.arrivals) (shift_lines 0 counts) c.put_each.result c.in_ok-put_best.ensures (rw (c.counts.ensures.value) at c.put_each.ensures)
