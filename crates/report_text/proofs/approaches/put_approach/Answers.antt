use Rattle.std.proofs.Common.{is_some}
use Rattle.outside.proofs.PutsFacts.{front-stopped, puts-then}
use Rattle.report_text.specs.Approaches.{arrivals_line, line_if, stop_bar_text}
use Rattle.report_text.proofs.approaches.put_approach.Goals as goal

pub returns-in_err-put_advance : goal.returns-in_err-put_advance
returns-in_err-put_advance g c =
    let a = c.args.approach.now in
    front-stopped _ _ (line_if (is_some a.advance) (arrivals_line a.name c.args.sums.now)) (stop_bar_text a c.args.sums.now c.args.splits.now) _ c.from_residual.ensures.0 c.in_err-put_advance.ensures

pub returns : goal.returns
returns g c =
    let a = c.args.approach.now in
    puts-then _ _ _ (line_if (is_some a.advance) (arrivals_line a.name c.args.sums.now)) (stop_bar_text a c.args.sums.now c.args.splits.now) c.put_stop_bar.result c.in_ok-put_advance.ensures c.put_stop_bar.ensures
