use Rattle.std.proofs.Common.{nat_lt}
use Rattle.hour_store.specs.Store.{Store}
use Rattle.ring_config.specs.Settings.{Settings}
use Rattle.sigaudit.specs.Script.{IsMeasuredOf}
use Rattle.sigaudit.proofs.StopFacts.{memory_at}
use Rattle.sigaudit.proofs.TakeFacts.{by_nothing, by_settled}
use Rattle.sigaudit.proofs.script.hour_line.Goals as goal

pub returns-in_err-settle-clause-turn : goal.returns-in_err-settle-clause-turn
returns-in_err-settle-clause-turn g c =
    rw (memory_at c.from_residual.result c.from_residual.ensures.1) (by_nothing (IsMeasuredOf c.args.session.now.config c.args.number c.args.hour c.args.session.now.store (nat_lt c.args.hour c.args.session.now.config.window.hours)) (g.K.Sink.taken c.args.sink.now) c.settle.new.self.store)

pub returns-clause-turn : goal.returns-clause-turn
returns-clause-turn g c =
    by_settled (λ (k : Settings) (s : Store). IsMeasuredOf k c.args.number c.args.hour s (nat_lt c.args.hour k.window.hours)) c.args.session.now.config c.settle.new.self.config c.args.session.now.store c.settle.new.self.store _ _ c.put_hour.result c.in_ok-settle.ensures.config c.in_ok-settle.ensures.store c.put_hour.ensures
