use Rattle.std.proofs.Common.{arith, ◌<◌, length}
use Rattle.std.proofs.lemmas.Int.{to_z-of_z}
use Rattle.board.proofs.Viewing.{went_up, went_down}
use Rattle.board.proofs.view.place_from.Goals as goal

pub returns-then-low-eq0-clause-place : goal.returns-then-low-eq0-clause-place
returns-then-low-eq0-clause-place c = let r = c.ranges.at in simp to_z-of_z at c.place_of.ensures.place

pub loop-place-init : goal.loop-place-init
loop-place-init c =
    let r = c.ranges.at in
    let low = simp to_z-of_z at c.low_of-low.ensures in
    simp to_z-of_z (λ j s. (low j s, s.0))

pub loop-place-preserved : goal.loop-place-preserved
loop-place-preserved c =
    let r = c.ranges.at in
    let i = simp to_z-of_z at c.loop-place.invariant in
    let e = simp to_z-of_z at c.is_before.ensures in
    let least = c.min-end.ensures in
    let t : c.loop-place.place < length c.args.moves.now = omega arith in
    simp to_z-of_z (λ j s. went_up c.args.at c.args.index c.args.moves.now c.loop-place.place (length c.args.moves.now) c.loop-place.place c.is_before.result t e c.if-not-is_before.false i j s)

pub returns-then-not-is_before-clause-place : goal.returns-then-not-is_before-clause-place
returns-then-not-is_before-clause-place c =
    let r = c.ranges.at in
    let i = simp to_z-of_z at c.loop-place.invariant in
    let e = simp to_z-of_z at c.is_before.ensures in
    (λ j s. let down = went_down c.args.at c.args.index c.args.moves.now c.loop-place.place (length c.args.moves.now) c.loop-place.place c.is_before.result e c.if-not-is_before.true i j s in let a = down.0 in let b = down.1 in omega arith)

pub returns-then-end-moves-clause-place : goal.returns-then-end-moves-clause-place
returns-then-end-moves-clause-place c =
    let r = c.ranges.at in
    let i = simp to_z-of_z at c.loop-place.invariant in
    let t = c.loop-place-test.false in
    let e = c.if-end-moves.true in
    (λ j s. let k = i j s in let a = k.0 in let b = k.1 in omega arith)

pub returns-clause-place : goal.returns-clause-place
returns-clause-place c = let r = c.ranges.at in simp to_z-of_z at c.place_of-2.ensures.place
