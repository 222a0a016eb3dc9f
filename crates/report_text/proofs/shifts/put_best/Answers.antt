use Rattle.report_text.proofs.ShiftLines.{best_line_is}
use Rattle.report_text.proofs.shifts.put_best.Goals as goal

pub returns : goal.returns
returns g c =
    let line = best_line_is c.args.shifts.now c.in-Some.shift c.in-Some.count c.args.arrivals c.in-Some.ensures.best in
    let parts = rw (c.as_bytes.ensures.value, c.format.ensures.text, c.as_bytes-2.ensures.value, c.format-2.ensures.text, c.as_bytes-3.ensures.value, c.format-3.ensures.text) at c.put_parts-2.ensures in
    rw line parts
