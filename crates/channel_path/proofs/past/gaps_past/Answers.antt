use Rattle.std.proofs.Common.{[]}
use Rattle.std.proofs.lemmas.Result.{on_ok_weaker}
use Rattle.reach.proofs.Later.{then_iff}
use Rattle.channel_path.specs.declared.moves.Move.TheVariants.{Letter, Gap}
use Rattle.channel_path.proofs.Legs.{gaps_leg}
use Rattle.channel_path.proofs.Holes.{leg_holes}
use Rattle.channel_path.proofs.Moving.{after_none, after_one, move_order}
use Rattle.channel_path.proofs.Running.{runs_moves}
use Rattle.channel_path.proofs.past.gaps_past.Goals as goal

pub gap_past-requires-clause-some : goal.gap_past-requires-clause-some
gap_past-requires-clause-some g c =
    let m = g.M.Machine.rules c.args.machine.now in
    let past = c.args.past.now in
    let leg = c.args.leg.now in
    (move_order m past past leg 0 (Letter 0 0 0) (Gap c.args.from c.args.to) c.requires.some (c.requires.first (Letter 0 0 0)) c.requires.order (after_none m past leg)).0

pub gap_past-requires-clause-place : goal.gap_past-requires-clause-place
gap_past-requires-clause-place g c =
    let m = g.M.Machine.rules c.args.machine.now in
    let past = c.args.past.now in
    let leg = c.args.leg.now in
    (move_order m past past leg 0 (Letter 0 0 0) (Gap c.args.from c.args.to) c.requires.some (c.requires.first (Letter 0 0 0)) c.requires.order (after_none m past leg)).1

pub returns-then-leg-eq1-clause-after : goal.returns-then-leg-eq1-clause-after
returns-then-leg-eq1-clause-after g c =
    let m = g.M.Machine.rules c.args.machine.now in
    let past = c.args.past.now in
    let leg = c.args.leg.now in
    on_ok_weaker c.gap_past.result (λ after u. then_iff (after u) (rw (c.requires.first (Letter 0 0 0)) at (after_one m past leg (Letter 0 0 0) u c.if-leg-eq1.true))) c.gap_past.ensures.after

pub put_holes-requires : goal.put_holes-requires
put_holes-requires g c = gaps_leg c.args.leg.now c.args.from c.args.to c.requires.leg c.requires.first

pub past_run-requires-clause-holes : goal.past_run-requires-clause-holes
past_run-requires-clause-holes g c =
    let k = c.in_ok-put_holes.ensures in
    rw c.as_slice.ensures.value (leg_holes (g.M.Machine.rules c.args.machine.now) c.requires.order.0 c.put_holes.new.holes.items c.args.leg.now k.holes c.requires.order.2 c.requires.leg k.end)

pub returns-clause-after : goal.returns-clause-after
returns-clause-after g c =
    let law = runs_moves (g.M.Machine.rules c.args.machine.now) c.args.past.now [] c.put_holes.new.holes.items c.args.leg.now c.in_ok-put_holes.ensures.holes in
    on_ok_weaker c.past_run.result (λ after u. then_iff (after u) (law.0 u)) (rw c.as_slice.ensures.value at c.past_run.ensures.after)
