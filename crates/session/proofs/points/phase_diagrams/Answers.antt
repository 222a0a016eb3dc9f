use Rattle.std.proofs.Common.{◌≡◌, ◌∙◌, ◌+◌, ◌≤◌, arith, length, map, refl}
use Rattle.std.proofs.lemmas.Result.{IfOk-weaker}
use Rattle.hour_store.specs.Store.{is_known, known_rows}
use Rattle.arrival_measures.specs.Points.{diagram_of, diagrams_of}
use Rattle.session.proofs.GrowLaws.{grow_on, grow_same}
use Rattle.session.proofs.KeptLaws.{carry_is, future_is}
use Rattle.session.proofs.DiagramLaws.{cycles_more, diagrams_whole, points_more}
use Rattle.session.proofs.points.phase_diagrams.Goals as goal

pub loop-hour-init : goal.loop-hour-init
loop-hour-init g c = record { phase = refl; cycles = c.new.ensures.items; points = c.new-2.ensures; grow = grow_same c.args.reads.now }

pub add_hour-requires-clause-before : goal.add_hour-requires-clause-before
add_hour-requires-clause-before g c =
    let n = c.hours-hour-end.ensures.value in
    let le : c.loop-hour.hour ≤ length c.args.store.now.hours = omega arith in
    carry_is c.args.config.now c.args.store.now c.args.worked.now.carries.items c.loop-hour.hour c.index-before.result.now c.hours-hour-end.ensures.store c.requires.kept.forth le c.index-before.ensures

pub add_hour-requires-clause-after : goal.add_hour-requires-clause-after
add_hour-requires-clause-after g c =
    let n = c.hours-hour-end.ensures.value in
    let le : c.loop-hour.hour + 1 ≤ length c.args.store.now.hours = omega arith in
    future_is c.args.config.now c.args.store.now c.args.worked.now.futures.items (c.loop-hour.hour + 1) c.index-after.result.now c.hours-hour-end.ensures.store c.requires.kept.back le c.index-after.ensures

pub returns-in_err-add_hour-clause-grow : goal.returns-in_err-add_hour-clause-grow
returns-in_err-add_hour-clause-grow g c = grow_on _ _ _ c.loop-hour.invariant.grow c.add_hour.ensures.grow

pub loop-hour-preserved : goal.loop-hour-preserved
loop-hour-preserved g c = record {
  phase = c.add_hour.ensures.phase ∙ c.loop-hour.invariant.phase;
  cycles = cycles_more c.args.config.now c.args.store.now c.args.phase c.loop-hour.hour c.loop-hour.found.cycles.items c.add_hour.new.found.cycles.items c.loop-hour.invariant.cycles (rw c.loop-hour.invariant.phase at c.in_ok-add_hour.ensures.cycles);
  points = points_more c.args.config.now c.args.store.now c.args.phase c.loop-hour.hour c.loop-hour.found.points c.add_hour.new.found.points c.loop-hour.invariant.points (rw c.loop-hour.invariant.phase at c.in_ok-add_hour.ensures.points);
  grow = grow_on _ _ _ c.loop-hour.invariant.grow c.add_hour.ensures.grow;
}

pub returns-clause-points : goal.returns-clause-points
returns-clause-points g c =
    let cfg = c.args.config.now in
    let s = c.args.store.now in
    let is = c.hours-hour-end.ensures.store in
    let n = c.hours-hour-end.ensures.value in
    let end : c.loop-hour.hour ≡ length s.hours = omega arith in
    let law = c.hours_make_up_the_log.ensures.cycles cfg s is in
    IfOk-weaker c.diagrams.result
    (λ v. v.items ≡ map (diagram_of c.loop-hour.found.points) c.deref.result.now)
    (λ v. v.items ≡ diagrams_of (is_known s) cfg c.args.phase (known_rows s))
    (λ v h. diagrams_whole cfg s c.args.phase c.loop-hour.hour c.deref.result.now c.loop-hour.found.points v.items end law (c.hours_make_up_the_log.ensures.points cfg s c.args.phase is) (c.deref.ensures.value ∙ c.loop-hour.invariant.cycles) c.loop-hour.invariant.points h)
    c.diagrams.ensures
