use Rattle.std.proofs.Common.{◌++◌}
use Rattle.outside.proofs.PutsFacts.{front-stopped, puts-then}
use Rattle.report_text.specs.Shifts.{best_line, shift_lines, shifts_head}
use Rattle.report_text.proofs.shifts.put_shifts.Goals as goal

pub returns-in_err-put_head : goal.returns-in_err-put_head
returns-in_err-put_head g c =
    let counts = c.args.shifts.now in
    front-stopped _ _ (shifts_head c.args.line c.args.name.now) (best_line counts c.args.arrivals ++ shift_lines 0 counts) _ c.from_residual.ensures.0 c.in_err-put_head.ensures

pub returns : goal.returns
returns g c =
    let counts = c.args.shifts.now in
    puts-then _ _ _ (shifts_head c.args.line c.args.name.now) (best_line counts c.args.arrivals ++ shift_lines 0 counts) c.put_found.result c.in_ok-put_head.ensures c.put_found.ensures
