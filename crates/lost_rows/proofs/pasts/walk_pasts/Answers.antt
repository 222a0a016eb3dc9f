use Rattle.std.proofs.Common.{arith, ◌≤◌, length}
use Rattle.reach.proofs.Alone.{on_ok}
use Rattle.channel_path.specs.declared.moves.Move.TheVariants.{Letter}
use Rattle.lost_rows.specs.Credits.{HoldsLost}
use Rattle.lost_rows.proofs.Credits.{order_at, still_before, walk_next, walk_ends}
use Rattle.lost_rows.proofs.Explaining.{walked_before}
use Rattle.lost_rows.proofs.pasts.walk_pasts.Goals as goal

pub move_pasts-requires-clause-place : goal.move_pasts-requires-clause-place
move_pasts-requires-clause-place g c =
    let m = g.M.Machine.rules c.args.machine.now in
    let (all, (low, early, order), walk) = c.loop-place.invariant in
    let o = order_at m low c.loop-place.place c.args.moves.now (Letter 0 0 0) c.loop-place-test.true order in
    still_before m c.args.asked c.still_before.result.from c.still_before.result.to _ low c.loop-place.pasts c.still_pasts.new.pasts early o.0 c.still_before.ensures.to c.in_ok-still_pasts.ensures.states

pub loop-place-preserved : goal.loop-place-preserved
loop-place-preserved g c =
    let m = g.M.Machine.rules c.args.machine.now in
    let (all, (low, early, order), walk) = c.loop-place.invariant in
    let o = order_at m low c.loop-place.place c.args.moves.now (Letter 0 0 0) c.loop-place-test.true order in (
      c.in_ok-move_pasts.ensures.colours,
      (_, c.in_ok-move_pasts.ensures.place, o.2),
      walk_next m c.args.asked (HoldsLost c.loop-place.pasts) (HoldsLost c.still_pasts.new.pasts) (HoldsLost c.move_pasts.new.pasts) (HoldsLost c.args.pasts.now) c.args.from c.loop-place.since c.still_begin-since.result c.loop-place.place c.args.to c.still_before.result.from c.still_before.result.to c.args.moves.now c.args.moves.now (Letter 0 0 0) c.loop-place-test.true c.still_before.ensures.from c.still_before.ensures.to c.still_begin-since.ensures c.in_ok-still_pasts.ensures.states c.in_ok-move_pasts.ensures.states walk,
    )

pub returns-clause-states : goal.returns-clause-states
returns-clause-states g c =
    let m = g.M.Machine.rules c.args.machine.now in
    let (all, (low, early, order), walk) = c.loop-place.invariant in
    let done : length c.args.moves.now ≤ c.loop-place.place = (let t = c.loop-place-test.false in omega arith) in
    on_ok c.still_pasts-2.result _ _ (λ h. walk_ends m c.args.asked (HoldsLost c.loop-place.pasts) (HoldsLost c.still_pasts-2.new.pasts) (HoldsLost c.args.pasts.now) c.args.from c.loop-place.since c.loop-place.place c.args.to c.still_up_to.result.from c.still_up_to.result.to c.args.moves.now c.args.moves.now done c.still_up_to.ensures.from c.still_up_to.ensures.to walk h) c.still_pasts-2.ensures.states

pub returns-clause-entered : goal.returns-clause-entered
returns-clause-entered g c =
    let m = g.M.Machine.rules c.args.machine.now in
    on_ok c.still_pasts-2.result _ _ (λ h low early o le. walked_before m c.args.asked low c.args.from c.args.moves.now c.args.to c.args.pasts.now c.still_pasts-2.new.pasts o le early h) (returns-clause-states g c)
