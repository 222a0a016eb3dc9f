use Rattle.std.proofs.Common.{ap, arith}
use Rattle.std.proofs.lemmas.Int.{ints}
use Rattle.sig_base.specs.Window.{Span}
use Rattle.hour_work.proofs.PointLaws.{last_future}
use Rattle.rule_audit.proofs.Tracked.{channels_are}
use Rattle.hour_work.proofs.carry.Future.end.Goals as goal

pub end-requires-clause-specs : goal.end-requires-clause-specs
end-requires-clause-specs c = rw c.specs.ensures.value (channels_are c.args.config.now c.specs.ensures.sound)

pub returns-clause-future : goal.returns-clause-future
returns-clause-future c =
    let shape = rw c.specs.ensures.value at c.in_ok-aheads.ensures.shape in
    let states = rw c.specs.ensures.value at c.in_ok-aheads.ensures.states in
    let f = c.from-point.ensures in
    let h = c.hours.ensures.value in
    let few = c.hours.ensures.few in
    let w = ap (λ (v : Span). v.hours) c.window.ensures in
    last_future c.args.config.now c.args.config.now.window.hours c.in_ok-aheads.aheads _ (omega (arith, ints)) shape states
