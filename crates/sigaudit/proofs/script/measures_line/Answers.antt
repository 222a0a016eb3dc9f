use Rattle.hour_store.specs.Store.{Store}
use Rattle.ring_config.specs.Settings.{Settings}
use Rattle.sigaudit.specs.Script.{IsMeasured}
use Rattle.sigaudit.proofs.StopFacts.{memory_at}
use Rattle.sigaudit.proofs.TakeFacts.{by_nothing, by_settled}
use Rattle.sigaudit.proofs.script.measures_line.Goals as goal

pub returns-in_err-settle-clause-turn : goal.returns-in_err-settle-clause-turn
returns-in_err-settle-clause-turn g c =
    rw (memory_at c.from_residual.result c.from_residual.ensures.1) (by_nothing (IsMeasured c.args.session.now.config c.args.number c.args.session.now.store) (g.K.Sink.taken c.args.sink.now) c.settle.new.self.store)

pub returns-clause-turn : goal.returns-clause-turn
returns-clause-turn g c =
    by_settled (λ (k : Settings) (s : Store). IsMeasured k c.args.number s) c.args.session.now.config c.settle.new.self.config c.args.session.now.store c.settle.new.self.store _ _ c.put_window.result c.in_ok-settle.ensures.config c.in_ok-settle.ensures.store c.put_window.ensures
