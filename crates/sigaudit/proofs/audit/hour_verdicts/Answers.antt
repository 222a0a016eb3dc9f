use Rattle.std.proofs.Common.{◌<◌, true, length, arith}
use Rattle.sigaudit.specs.Audit.{AreVerdicts}
use Rattle.sigaudit.proofs.AuditFacts.{lines_in, verdicts_cut, verdicts_done}
use Rattle.sigaudit.proofs.StopFacts.{fault_at, memory_at}
use Rattle.sigaudit.proofs.TakeFacts.{by_nothing}
use Rattle.sigaudit.proofs.audit.hour_verdicts.Goals as goal

pub audit_hour-requires : goal.audit_hour-requires
audit_hour-requires g c = let size = c.config-config.ensures.hours in let lt = c.requires in omega arith

pub returns-in_err-all-clause-turn : goal.returns-in_err-all-clause-turn
returns-in_err-all-clause-turn g c = rw (memory_at c.from_residual.result c.from_residual.ensures.1) (by_nothing (AreVerdicts c.args.session.now.config c.args.number c.args.hour c.args.session.now.store true) (g.K.Sink.taken c.args.sink.now) c.args.session.now.store)

pub put_verdicts-requires : goal.put_verdicts-requires
put_verdicts-requires g c =
    let within : c.args.hour < length c.args.session.now.store.hours = let size = c.config-config.ensures.hours in let lt = c.requires in omega arith in
    lines_in c.args.session.now.config c.config-config.result.now c.args.session.now.store c.args.hour c.in_ok-all.all.items c.deref.result.now c.config-config.ensures.value c.config-config.ensures.hours within c.in_ok-all.ensures.lines c.deref.ensures.value

pub returns-in_err-put_verdicts-clause-turn : goal.returns-in_err-put_verdicts-clause-turn
returns-in_err-put_verdicts-clause-turn g c =
    rw (fault_at c.from_residual-in_err-put_verdicts.result c.from_residual-in_err-put_verdicts.ensures.1)
    (verdicts_cut c.args.session.now.config c.config-config.result.now c.args.number c.args.hour c.args.session.now.store c.in_ok-all.all.items c.deref.result.now _ _
    c.config-config.ensures.value c.deref.ensures.value c.in_ok-all.ensures.history c.in_ok-all.ensures.lines c.in_err-put_verdicts.ensures)

pub returns-clause-turn : goal.returns-clause-turn
returns-clause-turn g c =
    verdicts_done c.args.session.now.config c.config-config.result.now c.args.number c.args.hour c.args.session.now.store c.in_ok-all.all.items c.deref.result.now _ _
    c.config-config.ensures.value c.deref.ensures.value c.in_ok-all.ensures.history c.in_ok-all.ensures.lines c.in_ok-put_verdicts.ensures
