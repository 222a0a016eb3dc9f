use Rattle.outside.proofs.PutsFacts.{front-stopped, puts-then}
use Rattle.report_text.specs.Audit.{due_text, window_text}
use Rattle.report_text.proofs.audit.put_verdict.Goals as goal

pub returns-in_err-put_due : goal.returns-in_err-put_due
returns-in_err-put_due g c = front-stopped _ _ (due_text c.args.window.now c.args.word.now c.args.line.now) (window_text c.args.window.now c.args.line.now.window) _ c.from_residual.ensures.0 c.in_err-put_due.ensures

pub returns : goal.returns
returns g c = puts-then _ _ _ (due_text c.args.window.now c.args.word.now c.args.line.now) (window_text c.args.window.now c.args.line.now.window) c.put_window.result c.in_ok-put_due.ensures c.put_window.ensures
