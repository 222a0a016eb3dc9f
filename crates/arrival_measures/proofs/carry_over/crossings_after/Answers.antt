use Rattle.std.proofs.Common.{◌∙◌, ◌+◌, ◌<◌, ◌++◌, ap, length, arith}
use Rattle.hour_sweep.specs.Rows.{known_rows}
use Rattle.hour_sweep.specs.Hours.{point}
use Rattle.arrival_measures.specs.Crossing.{crossing_of}
use Rattle.arrival_measures.proofs.Each.{listed_more, listed_all}
use Rattle.arrival_measures.proofs.Starts.{no_approach}
use Rattle.arrival_measures.proofs.Hours.{crossing_is}
use Rattle.arrival_measures.proofs.carry_over.crossings_after.Goals as goal

pub loop-place-init : goal.loop-place-init
loop-place-init c = λ known before hour are cut cross. c.new-after.ensures.items

pub loop-place-preserved : goal.loop-place-preserved
loop-place-preserved c = λ known before hour are cut cross.
    let config = c.args.config.now in
    let place = c.loop-place.place in
    let lt : place < length config.approaches = omega arith in
    let at = c.approach_of-approach.ensures.approach no_approach in
    let F = crossing_of known (point (hour + 1)) (before ++ known_rows known c.args.hour.now.rows.now) in
    let here = crossing_is known config before hour c.args.crossings.now place c.none-none.result c.crossing_at-crossing.result.now c.approach_of-approach.result.now no_approach cross lt c.crossing_at-crossing.ensures at in
    listed_more F config.approaches place no_approach c.loop-place.after.items c.push.new.self.items c.in_ok-approach_after.field-0 lt (c.loop-place.invariant known before hour are cut cross)
    (c.in_ok-approach_after.ensures known config before hour are cut c.approach_of-approach.ensures.own here ∙ ap F at) c.in_ok-push.ensures.items

pub returns : goal.returns
returns c = λ known before hour are cut cross. listed_all (crossing_of known (point (hour + 1)) (before ++ known_rows known c.args.hour.now.rows.now)) c.args.config.now.approaches c.loop-place.place c.loop-place.after.items (omega arith) (c.loop-place.invariant known before hour are cut cross)
