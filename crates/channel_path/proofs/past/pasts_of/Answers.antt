use Rattle.std.proofs.Common.{arith, ◌≡◌, ◌∙◌, ◌+◌, ◌∷◌, ◌++◌, [], get_or}
use Rattle.channel_path.specs.declared.moves.Move.TheVariants.{Letter}
use Rattle.channel_path.specs.Kept.{kept_before}
use Rattle.channel_path.proofs.Legs.{slice_leg, one_move}
use Rattle.channel_path.proofs.Moving.{move_order, after_more, leg_order, after_leg}
use Rattle.channel_path.proofs.Keeping.{kept_leg}
use Rattle.channel_path.proofs.Certain.{pasts_front}
use Rattle.channel_path.proofs.past.pasts_of.Goals as goal

pub letter_past-requires-clause-fits : goal.letter_past-requires-clause-fits
letter_past-requires-clause-fits g c = (move_order (g.M.Machine.rules c.args.machine.now) c.args.before.now c.loop-place.past c.args.moves.now c.loop-place.place (Letter 0 0 0) _ c.loop-place-test.true c.in-Letter.is c.requires.order c.loop-place.invariant.after.1).0

pub letter_past-requires-clause-place : goal.letter_past-requires-clause-place
letter_past-requires-clause-place g c = (move_order (g.M.Machine.rules c.args.machine.now) c.args.before.now c.loop-place.past c.args.moves.now c.loop-place.place (Letter 0 0 0) _ c.loop-place-test.true c.in-Letter.is c.requires.order c.loop-place.invariant.after.1).1

pub loop-place-preserved-in-Letter : goal.loop-place-preserved-in-Letter
loop-place-preserved-in-Letter g c =
    let m = g.M.Machine.rules c.args.machine.now in
    let before = c.args.before.now in
    let xs = c.args.moves.now in
    let a = c.loop-place.place in
    let d = Letter 0 0 0 in
    let i = c.loop-place.invariant in
    let lt = c.loop-place-test.true in
    let k = c.in_ok-_some-in-Letter.ensures in
    let kept : c.keep_past.new.pasts.items ≡ kept_before (get_or xs a d) c.loop-place.pasts.items c.loop-place.past = rw c.in-Letter.is c.in_ok-keep_past-in-Letter.ensures.ok in
    record {
      within = omega arith;
      after = (k.colours ∙ i.after.0, after_more m before c.loop-place.past c.letter_past.new.past xs a d lt i.after.1 (rw c.in-Letter.is k.after));
      kept = rw kept (kept_leg m before xs a (a + 1) d c.loop-place.pasts.items c.loop-place.past (omega arith) (omega arith) (one_move xs a (a + 1) (omega arith)) i.after i.kept);
    }

pub gaps_past-requires-clause-order : goal.gaps_past-requires-clause-order
gaps_past-requires-clause-order g c = leg_order (g.M.Machine.rules c.args.machine.now) c.args.before.now c.loop-place.past c.args.moves.now c.loop-place.place c.leg_end-end.result c.requires.order c.loop-place.invariant.after.1

pub loop-place-preserved : goal.loop-place-preserved
loop-place-preserved g c =
    let m = g.M.Machine.rules c.args.machine.now in
    let before = c.args.before.now in
    let xs = c.args.moves.now in
    let a = c.loop-place.place in
    let b = c.leg_end-end.result in
    let d = Letter 0 0 0 in
    let i = c.loop-place.invariant in
    let end = c.leg_end-end.ensures in
    let k = c.in_ok-gaps_past-in-Gap.ensures in
    let leg = slice_leg xs a b end.within end.leg in
    record {
      within = end.within;
      after = (k.colours ∙ i.after.0, after_leg m before c.loop-place.past c.gaps_past.new.past xs a b (let lt = end.some in omega arith) i.after.1 k.after);
      kept = rw c.in-Gap.is at (kept_leg m before xs a b d c.loop-place.pasts.items c.loop-place.past end.some end.within leg i.after i.kept);
    }

pub returns-clause-pasts : goal.returns-clause-pasts
returns-clause-pasts g c =
    let m = g.M.Machine.rules c.args.machine.now in
    let xs = c.args.moves.now in
    let i = c.loop-place.invariant in
    let pasts : c.push.new.self.items ≡ c.loop-place.pasts.items ++ c.loop-place.past ∷ [] = c.in_ok-push.ensures.items in
    rw pasts (pasts_front m c.args.before.now xs c.loop-place.place c.loop-place.pasts.items c.loop-place.past c.in_ok-runs.runs.items i.within c.requires.order c.in_ok-runs.ensures i.kept i.after)
