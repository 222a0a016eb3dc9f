use Rattle.hour_store.specs.Store.{Store}
use Rattle.ring_config.specs.Settings.{Settings}
use Rattle.sigaudit.specs.Audit.{IsAudited}
use Rattle.sigaudit.proofs.GrowFacts.{grow_on}
use Rattle.sigaudit.proofs.StopFacts.{memory_at}
use Rattle.sigaudit.proofs.TakeFacts.{by_nothing, by_settled}
use Rattle.sigaudit.proofs.audit.audit_line.Goals as goal

pub returns-in_err-settle-clause-turn : goal.returns-in_err-settle-clause-turn
returns-in_err-settle-clause-turn g c =
    rw (memory_at c.from_residual.result c.from_residual.ensures.1) (by_nothing (IsAudited c.args.session.now.config c.args.number c.args.session.now.store) (g.K.Sink.taken c.args.sink.now) c.settle.new.self.store)

pub returns-clause-turn : goal.returns-clause-turn
returns-clause-turn g c =
    by_settled (λ (k : Settings) (s : Store). IsAudited k c.args.number s) c.args.session.now.config c.settle.new.self.config c.args.session.now.store c.settle.new.self.store _ _ c.put_whole.result c.in_ok-settle.ensures.config c.in_ok-settle.ensures.store c.put_whole.ensures.turn

pub returns-clause-grow : goal.returns-clause-grow
returns-clause-grow g c = grow_on _ _ _ c.in_ok-settle.ensures.grow c.put_whole.ensures.grow
