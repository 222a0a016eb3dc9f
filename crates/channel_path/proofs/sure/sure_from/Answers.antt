use Rattle.std.proofs.Common.{arith, refl, ◌≡◌, ◌∙◌, length}
use Rattle.channel_path.specs.declared.moves.Move.TheVariants.{Letter}
use Rattle.channel_path.proofs.Moving.{move_order, after_more}
use Rattle.channel_path.proofs.Certain.{one_more, all_certain}
use Rattle.reach.specs.Single.{sets_of}
use Rattle.channel_path.proofs.sure.sure_from.Goals as goal

pub single_after-requires-clause-fits : goal.single_after-requires-clause-fits
single_after-requires-clause-fits g c = (move_order (g.M.Machine.rules c.args.machine.now) (sets_of c.args.one) (sets_of c.loop-i.here) c.args.moves.now c.loop-i.i (Letter 0 0 0) _ c.loop-i-test.true refl c.requires.order c.loop-i.invariant.here.1).0

pub single_after-requires-clause-place : goal.single_after-requires-clause-place
single_after-requires-clause-place g c = (move_order (g.M.Machine.rules c.args.machine.now) (sets_of c.args.one) (sets_of c.loop-i.here) c.args.moves.now c.loop-i.i (Letter 0 0 0) _ c.loop-i-test.true refl c.requires.order c.loop-i.invariant.here.1).1

pub loop-i-preserved : goal.loop-i-preserved
loop-i-preserved g c =
    let m = g.M.Machine.rules c.args.machine.now in
    let before = sets_of c.args.one in
    let i = c.loop-i.invariant in
    let k = c.in-Some.ensures in
    record {
      colours = k.colours ∙ i.colours;
      here = (k.single, after_more m before (sets_of c.loop-i.here) (sets_of c.in-Some.next) c.args.moves.now c.loop-i.i (Letter 0 0 0) c.loop-i-test.true i.here.1 k.after);
      sure = one_more m before c.args.moves.now c.loop-i.i c.loop-i.here c.loop-i.sure.items c.push.new.self.items c.in_ok-push.ensures.items i.here i.sure;
    }

pub returns-then-single_goes_on : goal.returns-then-single_goes_on
returns-then-single_goes_on g c =
    let m = g.M.Machine.rules c.args.machine.now in
    let before = sets_of c.args.one in
    let i = c.loop-i.invariant in
    let all : c.loop-i.i ≡ length c.args.moves.now = omega arith in
    let sure = one_more m before c.args.moves.now c.loop-i.i c.loop-i.here c.loop-i.sure.items c.push-2.new.self.items c.in_ok-push-2.ensures.items i.here i.sure in
    all_certain m before c.args.after.now c.args.moves.now c.loop-i.here c.push-2.new.self.items (rw all at sure) (rw all at i.here) (c.single_goes_on.ensures c.if-single_goes_on.true)
