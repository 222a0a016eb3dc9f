use Rattle.sigaudit.proofs.LineFacts.{hour_cut, hour_done, hour_outside}
use Rattle.sigaudit.proofs.StopFacts.{fault_at}
use Rattle.sigaudit.proofs.script.put_hour.Goals as goal

pub returns-in_default : goal.returns-in_default
returns-in_default g c =
    hour_outside c.args.session.now.config c.config-config.result.now c.args.number c.args.hour c.args.session.now.store c.report.result.now _ _ c.refuse.result
    c.config-config.ensures.value (record { history = c.report.ensures.history; store = c.report.ensures.store; hours = c.config-config.ensures.hours; report = c.report.ensures.report }) c.in_default.ensures c.refuse.ensures

pub returns-in_err-put_hour_measures : goal.returns-in_err-put_hour_measures
returns-in_err-put_hour_measures g c =
    rw (fault_at c.from_residual.result c.from_residual.ensures.1)
    (hour_cut c.args.session.now.config c.config-config.result.now c.args.number c.args.hour c.args.session.now.store c.report.result.now c.in-Some.part.now _ _
    c.config-config.ensures.value (record { history = c.report.ensures.history; store = c.report.ensures.store; hours = c.config-config.ensures.hours; report = c.report.ensures.report }) c.in-Some.ensures c.in_err-put_hour_measures.ensures)

pub returns : goal.returns
returns g c =
    hour_done c.args.session.now.config c.config-config.result.now c.args.number c.args.hour c.args.session.now.store c.report.result.now c.in-Some.part.now _ _
    c.config-config.ensures.value (record { history = c.report.ensures.history; store = c.report.ensures.store; hours = c.config-config.ensures.hours; report = c.report.ensures.report }) c.in-Some.ensures c.in_ok-put_hour_measures.ensures
