use Rattle.std.proofs.Common.{◌≤◌, ◌+◌, drop, length}
use Rattle.outside.proofs.PutsFacts.{going-end, going-on, going-stopped}
use Rattle.report_text.specs.Approaches.{approach_text, approaches_text}
use Rattle.report_text.proofs.ApproachLines.{approaches_end, approaches_next, approaches_out, approaches_past, splits_out}
use Rattle.report_text.proofs.approaches.put_approaches.Goals as goal

pub returns-in_default : goal.returns-in_default
returns-in_default g c =
    let all = c.args.config.now.approaches in
    going-end _ _ (approaches_text all c.args.sums.now c.args.splits.now) (rw (approaches_past all c.args.sums.now c.args.splits.now c.loop-place.place c.in_default.ensures.value) at c.loop-place.invariant)

pub returns-in_default-get : goal.returns-in_default-get
returns-in_default-get g c =
    let all = c.args.config.now.approaches in
    going-end _ _ (approaches_text all c.args.sums.now c.args.splits.now) (rw (approaches_out all c.args.sums.now c.args.splits.now c.loop-place.place c.in_default-get.ensures.lookup.3) at c.loop-place.invariant)

pub returns-in_default-get-2 : goal.returns-in_default-get-2
returns-in_default-get-2 g c =
    let all = c.args.config.now.approaches in
    going-end _ _ (approaches_text all c.args.sums.now c.args.splits.now) (rw (splits_out all c.args.sums.now c.args.splits.now c.loop-place.place c.in_default-get-2.ensures.lookup.3) at c.loop-place.invariant)

pub returns-in_err-put_approach : goal.returns-in_err-put_approach
returns-in_err-put_approach g c =
    let all = c.args.config.now.approaches in
    let a = c.in-Some.approach.now in
    let s = c.in-Some-get.own.now in
    let found = c.in-Some-get.ensures.lookup in
    let f = c.in-Some-get-2.split.now in
    let more = c.in-Some-get-2.ensures.lookup in
    let next = approaches_next all c.args.sums.now c.args.splits.now c.loop-place.place a s f c.in-Some.ensures.value found.3.0 found.1 more.3.0 more.1 in
    going-stopped _ _ _ (approaches_text all c.args.sums.now c.args.splits.now) (approach_text a s f) (approaches_text (drop (c.loop-place.place + 1) all) (drop (c.loop-place.place + 1) c.args.sums.now) (drop (c.loop-place.place + 1) c.args.splits.now)) _ c.from_residual.ensures.0 (rw next at c.loop-place.invariant) c.in_err-put_approach.ensures

pub loop-place-preserved : goal.loop-place-preserved
loop-place-preserved g c =
    let all = c.args.config.now.approaches in
    let a = c.in-Some.approach.now in
    let s = c.in-Some-get.own.now in
    let found = c.in-Some-get.ensures.lookup in
    let f = c.in-Some-get-2.split.now in
    let more = c.in-Some-get-2.ensures.lookup in
    let next = approaches_next all c.args.sums.now c.args.splits.now c.loop-place.place a s f c.in-Some.ensures.value found.3.0 found.1 more.3.0 more.1 in
    going-on _ _ _ (approaches_text all c.args.sums.now c.args.splits.now) (approach_text a s f) (approaches_text (drop (c.loop-place.place + 1) all) (drop (c.loop-place.place + 1) c.args.sums.now) (drop (c.loop-place.place + 1) c.args.splits.now)) (rw next at c.loop-place.invariant) c.in_ok-put_approach.ensures

pub returns : goal.returns
returns g c =
    let all = c.args.config.now.approaches in
    let over : length all ≤ c.loop-place.place = rw (c.approach_count-place-end.ensures.value) at c.loop-place-test.false in
    going-end _ _ (approaches_text all c.args.sums.now c.args.splits.now) (rw (approaches_end all c.args.sums.now c.args.splits.now c.loop-place.place over) at c.loop-place.invariant)
