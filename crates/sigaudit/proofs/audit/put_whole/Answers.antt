use Rattle.sigaudit.specs.Audit.{IsAudited}
use Rattle.sigaudit.proofs.AuditFacts.{audit_cut, audit_done, failing_in}
use Rattle.sigaudit.proofs.StopFacts.{fault_at, memory_at}
use Rattle.sigaudit.proofs.TakeFacts.{by_nothing}
use Rattle.sigaudit.proofs.audit.put_whole.Goals as goal

pub returns-in_err-failing-clause-turn : goal.returns-in_err-failing-clause-turn
returns-in_err-failing-clause-turn g c = rw (memory_at c.from_residual.result c.from_residual.ensures.1) (by_nothing (IsAudited c.args.session.now.config c.args.number c.args.session.now.store) (g.K.Sink.taken c.args.sink.now) c.args.session.now.store)

pub put_audit-requires : goal.put_audit-requires
put_audit-requires g c =
    failing_in c.args.session.now.config c.config.result.now c.args.session.now.store c.in_ok-failing.failing.items c.deref.result.now c.config.ensures.value c.config.ensures.hours c.in_ok-failing.ensures.lines c.deref.ensures.value

pub returns-in_err-put_audit-clause-turn : goal.returns-in_err-put_audit-clause-turn
returns-in_err-put_audit-clause-turn g c =
    rw (fault_at c.from_residual-in_err-put_audit.result c.from_residual-in_err-put_audit.ensures.1)
    (audit_cut c.args.session.now.config c.config.result.now c.args.number c.args.session.now.store c.report.result.now c.rules.result.now c.total-total.result.now c.in_ok-failing.failing.items c.deref.result.now _ _
    c.config.ensures.value c.rules.ensures c.total-total.ensures (record { history = c.report.ensures.history; store = c.report.ensures.store; hours = c.config.ensures.hours; report = c.report.ensures.report }) c.in_ok-failing.ensures.lines c.deref.ensures.value c.in_err-put_audit.ensures)

pub returns-clause-turn : goal.returns-clause-turn
returns-clause-turn g c =
    audit_done c.args.session.now.config c.config.result.now c.args.number c.args.session.now.store c.report.result.now c.rules.result.now c.total-total.result.now c.in_ok-failing.failing.items c.deref.result.now _ _
    c.config.ensures.value c.rules.ensures c.total-total.ensures (record { history = c.report.ensures.history; store = c.report.ensures.store; hours = c.config.ensures.hours; report = c.report.ensures.report }) c.in_ok-failing.ensures.lines c.deref.ensures.value c.in_ok-put_audit.ensures
