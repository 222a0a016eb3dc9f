use Rattle.std.proofs.Common.{◌≡◌, ◌∙◌, ◌+◌, ◌<◌, ◌&&◌, cond, eqb, [], ◌∷◌, ◌++◌, ap, sym, length, get_or, arith}
use Rattle.ring_config.specs.declared.items.Approach.{Approach}
use Rattle.arrival_measures.specs.declared.points.Point.{Point}
use Rattle.arrival_measures.specs.Points.{is_on_at, points_at}
use Rattle.arrival_measures.proofs.Starts.{no_approach}
use Rattle.arrival_measures.proofs.RowPoints.{point_of, point_next}
use Rattle.arrival_measures.proofs.points.add_points.Goals as goal
use Rattle.arrival_measures.proofs.points.add_points.Goals.{then-arrives+in_ok-push, else-arrives}

pub loop-place-preserved : goal.loop-place-preserved
loop-place-preserved c = λ low.
    let all = c.args.config.now.approaches in
    let place = c.loop-place.place in
    let lt : place < length all = omega arith in
    let p = c.args.phase in
    let x = c.args.row.now in
    let old = c.loop-place.points in
    let whole = c.args.points.now ++ points_at p 0 all x in
    let at = c.approach_of-approach.ensures.approach no_approach in
    let few = c.approach_of-approach.ensures.own.travel in
    let v = (get_or all place no_approach).travel in
    let same : c.approach_of-approach.result.now.travel ≡ v = ap (λ (a : Approach). a.travel) at in
    let is = c.arrives.ensures ∙ ap (λ (a : Approach). eqb a.phase p && is_on_at a.advance x) at in
    elim c.if-arrives.branch [
      | then-arrives+in_ok-push w ↦
          let offset : w.saturating_add.result ≡ x.at + v = (let s = w.saturating_add.ensures in omega arith) in
          let point = ap (λ n. let z : Point = record { approach = place; offset = n } in z) offset in
          point_next p place all x no_approach c.arrives.result old c.if-arrives.points whole lt is (w.points-is ∙ w.in_ok-push.ensures.ok ∙ ap (λ z. old ++ z ∷ []) point ∙ sym (ap (λ b. cond b (old ++ point_of place v x ∷ []) old) w.if-arrives.true)) (c.loop-place.invariant low)
      | else-arrives w ↦ point_next p place all x no_approach c.arrives.result old c.if-arrives.points whole lt is (w.points-is ∙ sym (ap (λ b. cond b (old ++ point_of place v x ∷ []) old) w.if-arrives.false)) (c.loop-place.invariant low)
    ]
