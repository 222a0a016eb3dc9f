use Rattle.std.proofs.Common.{arith, ◌∙◌, ◌-◌, take, drop}
use Rattle.channel_path.specs.declared.moves.Move.TheVariants.{Letter}
use Rattle.channel_path.proofs.Legs.{gaps_slice}
use Rattle.channel_path.proofs.Moving.{move_order, after_more, stops_more, leg_order, after_leg, some_gaps}
use Rattle.channel_path.proofs.past.walk_past.Goals as goal

pub letter_past-requires-clause-fits : goal.letter_past-requires-clause-fits
letter_past-requires-clause-fits g c = (move_order (g.M.Machine.rules c.args.machine.now) c.args.past.now c.loop-place.past c.args.moves.now c.loop-place.place (Letter 0 0 0) _ c.loop-place-test.true c.in-Letter.is c.requires.order c.loop-place.invariant.after).0

pub letter_past-requires-clause-place : goal.letter_past-requires-clause-place
letter_past-requires-clause-place g c = (move_order (g.M.Machine.rules c.args.machine.now) c.args.past.now c.loop-place.past c.args.moves.now c.loop-place.place (Letter 0 0 0) _ c.loop-place-test.true c.in-Letter.is c.requires.order c.loop-place.invariant.after).1

pub returns-then-not-branch-clause-after : goal.returns-then-not-branch-clause-after
returns-then-not-branch-clause-after g c =
    let m = g.M.Machine.rules c.args.machine.now in
    let i = c.loop-place.invariant in
    let k = c.in_ok-letter_past-in-Letter.ensures in
    stops_more m c.args.past.now c.loop-place.past c.letter_past.new.past c.args.moves.now c.loop-place.place (Letter 0 0 0) _ c.loop-place-test.true i.some i.after (rw c.in-Letter.is k.after) k.some c.if-not-branch.true

pub loop-place-preserved-in-Letter : goal.loop-place-preserved-in-Letter
loop-place-preserved-in-Letter g c =
    let m = g.M.Machine.rules c.args.machine.now in
    let i = c.loop-place.invariant in
    let k = c.in_ok-letter_past-in-Letter.ensures in
    record {
      within = (let lt = c.loop-place-test.true in omega arith);
      colours = k.colours ∙ i.colours;
      some = k.some.0 c.if-not-branch.false;
      after = after_more m c.args.past.now c.loop-place.past c.letter_past.new.past c.args.moves.now c.loop-place.place (Letter 0 0 0) c.loop-place-test.true i.after (rw c.in-Letter.is k.after);
    }

pub gaps_past-requires-clause-order : goal.gaps_past-requires-clause-order
gaps_past-requires-clause-order g c = leg_order (g.M.Machine.rules c.args.machine.now) c.args.past.now c.loop-place.past c.args.moves.now c.loop-place.place c.leg_end-end.result c.requires.order c.loop-place.invariant.after

pub loop-place-preserved : goal.loop-place-preserved
loop-place-preserved g c =
    let m = g.M.Machine.rules c.args.machine.now in
    let i = c.loop-place.invariant in
    let end = c.leg_end-end.ensures in
    let k = c.in_ok-gaps_past-in-Gap.ensures in
    let xs = c.args.moves.now in
    let a = c.loop-place.place in
    let b = c.leg_end-end.result in
    let gaps = gaps_slice xs a b c.in-Gap.from c.in-Gap.to (Letter 0 0 0) end.some end.within c.in-Gap.is end.leg in
    record {
      within = end.within;
      colours = k.colours ∙ i.colours;
      some = some_gaps m c.loop-place.past c.gaps_past.new.past (take (b - a) (drop a xs)) gaps (leg_order m c.args.past.now c.loop-place.past xs a b c.requires.order i.after) i.some k.after;
      after = after_leg m c.args.past.now c.loop-place.past c.gaps_past.new.past xs a b (let lt = end.some in omega arith) i.after k.after;
    }
