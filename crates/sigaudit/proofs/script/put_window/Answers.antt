use Rattle.sigaudit.proofs.LineFacts.{measures_cut, measures_done}
use Rattle.sigaudit.proofs.StopFacts.{fault_at}
use Rattle.sigaudit.proofs.script.put_window.Goals as goal

pub returns-in_err-put_window_measures : goal.returns-in_err-put_window_measures
returns-in_err-put_window_measures g c =
    rw (fault_at c.from_residual.result c.from_residual.ensures.1)
    (measures_cut c.args.session.now.config c.config.result.now c.args.number c.args.session.now.store c.report.result.now c.total-total.result.now _ _ c.config.ensures.value (record { history = c.report.ensures.history; store = c.report.ensures.store; hours = c.config.ensures.hours; report = c.report.ensures.report }) c.total-total.ensures c.in_err-put_window_measures.ensures)

pub returns : goal.returns
returns g c =
    measures_done c.args.session.now.config c.config.result.now c.args.number c.args.session.now.store c.report.result.now c.total-total.result.now _ _ c.config.ensures.value (record { history = c.report.ensures.history; store = c.report.ensures.store; hours = c.config.ensures.hours; report = c.report.ensures.report }) c.total-total.ensures c.in_ok-put_window_measures.ensures
