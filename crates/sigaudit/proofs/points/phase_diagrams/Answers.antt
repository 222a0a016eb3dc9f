use Rattle.std.proofs.Common.{◌≡◌, true}
use Rattle.sigaudit.specs.Points.{points_turn}
use Rattle.sigaudit.proofs.PointFacts.{diagrams_in, points_cut, points_done}
use Rattle.sigaudit.proofs.StopFacts.{fault_at, memory_at}
use Rattle.sigaudit.proofs.TakeFacts.{by_nothing}
use Rattle.sigaudit.proofs.points.phase_diagrams.Goals as goal

pub returns-in_err-diagrams-clause-turn : goal.returns-in_err-diagrams-clause-turn
returns-in_err-diagrams-clause-turn g c = rw (memory_at c.from_residual.result c.from_residual.ensures.1) (by_nothing (λ t. t ≡ points_turn c.args.session.now.config c.args.number c.args.phase c.args.session.now.store true) (g.K.Sink.taken c.args.sink.now) c.args.session.now.store)

pub put_diagrams-requires : goal.put_diagrams-requires
put_diagrams-requires g c =
    diagrams_in c.args.session.now.config c.config.result.now c.args.session.now.store c.args.phase c.in_ok-diagrams.diagrams.items c.deref.result.now c.config.ensures.value c.config.ensures.hours c.in_ok-diagrams.ensures.points c.deref.ensures.value

pub returns-in_err-put_diagrams-clause-turn : goal.returns-in_err-put_diagrams-clause-turn
returns-in_err-put_diagrams-clause-turn g c =
    rw (fault_at c.from_residual-in_err-put_diagrams.result c.from_residual-in_err-put_diagrams.ensures.1)
    (points_cut c.args.session.now.config c.config.result.now c.args.number c.args.phase c.args.session.now.store c.in_ok-diagrams.diagrams.items c.deref.result.now _ _ c.config.ensures.value c.in_ok-diagrams.ensures.points c.deref.ensures.value c.in_err-put_diagrams.ensures)

pub returns-clause-turn : goal.returns-clause-turn
returns-clause-turn g c =
    points_done c.args.session.now.config c.config.result.now c.args.number c.args.phase c.args.session.now.store c.in_ok-diagrams.diagrams.items c.deref.result.now _ _ c.config.ensures.value c.in_ok-diagrams.ensures.points c.deref.ensures.value c.in_ok-put_diagrams.ensures
