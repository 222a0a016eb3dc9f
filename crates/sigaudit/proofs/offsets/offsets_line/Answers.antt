use Rattle.std.proofs.Common.{◌≡◌}
use Rattle.sigaudit.specs.Offsets.{offsets_of}
use Rattle.sigaudit.proofs.StopFacts.{fault_at, memory_at}
use Rattle.sigaudit.proofs.TakeFacts.{by_nothing}
use Rattle.sigaudit.proofs.OffsetFacts.{advance_still, offsets_absent, offsets_cut, offsets_done}
use Rattle.sigaudit.proofs.offsets.offsets_line.Goals as goal

pub returns-in_err-arrivals-clause-turn : goal.returns-in_err-arrivals-clause-turn
returns-in_err-arrivals-clause-turn g c = rw (memory_at c.from_residual.result c.from_residual.ensures.1) (by_nothing (λ t. t ≡ offsets_of c.args.session.now.config c.args.number c.args.name.now c.args.session.now.store) (g.K.Sink.taken c.args.sink.now) c.args.session.now.store)

pub returns-in_default-clause-turn : goal.returns-in_default-clause-turn
returns-in_default-clause-turn g c =
    offsets_absent c.args.session.now.config c.config.result.now c.config-in_default.result.now c.args.number c.args.name.now c.args.session.now.store _ _ c.refuse.result c.config.ensures.value c.config-in_default.ensures.value c.in_default.ensures c.refuse.ensures

pub returns-in_err-put_shifts-clause-turn : goal.returns-in_err-put_shifts-clause-turn
returns-in_err-put_shifts-clause-turn g c =
    rw (fault_at c.from_residual-in_err-put_shifts.result c.from_residual-in_err-put_shifts.ensures.1)
    (offsets_cut c.args.session.now.config c.config.result.now c.args.number c.args.name.now c.args.session.now.store (c.in-Some.place, c.in-Some.phase) _ _ _ _ c.config.ensures.value c.in-Some.ensures c.in_ok-arrivals.ensures.arrivals c.in_ok-arrivals.ensures.shifts (rw c.as_bytes.ensures.value at c.in_err-put_shifts.ensures))

pub returns-clause-turn : goal.returns-clause-turn
returns-clause-turn g c =
    offsets_done c.args.session.now.config c.config.result.now c.args.number c.args.name.now c.args.session.now.store (c.in-Some.place, c.in-Some.phase) _ _ _ _ c.config.ensures.value c.in-Some.ensures c.in_ok-arrivals.ensures.arrivals c.in_ok-arrivals.ensures.shifts (rw c.as_bytes.ensures.value at c.in_ok-put_shifts.ensures)

pub returns-in_err-arrivals-clause-still : goal.returns-in_err-arrivals-clause-still
returns-in_err-arrivals-clause-still g c = advance_still c.args.session.now.config c.config.result.now c.args.name.now (c.in-Some.place, c.in-Some.phase) _ _ c.config.ensures.value c.in-Some.ensures

pub returns-in_err-put_shifts-clause-still : goal.returns-in_err-put_shifts-clause-still
returns-in_err-put_shifts-clause-still g c = advance_still c.args.session.now.config c.config.result.now c.args.name.now (c.in-Some.place, c.in-Some.phase) _ _ c.config.ensures.value c.in-Some.ensures

pub returns-clause-still : goal.returns-clause-still
returns-clause-still g c = advance_still c.args.session.now.config c.config.result.now c.args.name.now (c.in-Some.place, c.in-Some.phase) _ _ c.config.ensures.value c.in-Some.ensures
