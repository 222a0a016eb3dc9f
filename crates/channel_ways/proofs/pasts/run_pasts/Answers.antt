use Rattle.std.proofs.Common.{arith, refl, ap, ◌≡◌, ◌∙◌, ◌+◌, List, length, get_or, take}
use Rattle.std.proofs.lemmas.List.{take_all}
use Rattle.channel_path.specs.declared.moves.Move.{Move}
use Rattle.channel_path.specs.declared.moves.Move.TheVariants.{Letter}
use Rattle.channel_path.specs.Kept.{letters, kept_before}
use Rattle.channel_path.proofs.Legs.{one_move}
use Rattle.channel_path.proofs.Moving.{leg_order, after_leg}
use Rattle.channel_path.proofs.Keeping.{kept_leg}
use Rattle.channel_ways.proofs.Running.{are_run_pasts, some_place, no_stop_one}
use Rattle.channel_ways.proofs.pasts.run_pasts.Goals as goal

pub walk_past-requires-clause-order : goal.walk_past-requires-clause-order
walk_past-requires-clause-order g c = leg_order (g.M.Machine.rules c.args.machine.now) c.args.before.now c.loop-place.past c.args.moves.now c.loop-place.place (c.loop-place.place + 1) c.requires.order c.loop-place.invariant.after.1

pub walk_past-requires-clause-colours : goal.walk_past-requires-clause-colours
walk_past-requires-clause-colours g c = c.loop-place.invariant.after.0

pub walk_past-requires-clause-some : goal.walk_past-requires-clause-some
walk_past-requires-clause-some g c = some_place (g.M.Machine.rules c.args.machine.now) c.args.before.now c.loop-place.past c.loop-place.place c.args.moves.now c.requires.some c.loop-place.invariant.after.1

pub unreachable-requires : goal.unreachable-requires
unreachable-requires g c =
    let m = g.M.Machine.rules c.args.machine.now in
    let lt = c.loop-place-test.true in
    let stop = rw c.in-Some.is at c.in_ok-stop.ensures.after in
    no_stop_one m c.args.before.now c.loop-place.past c.args.moves.now c.loop-place.place (c.loop-place.place + 1) c.in-Some._stop refl (omega arith) c.requires.some c.loop-place.invariant.after.1 stop

pub loop-place-preserved : goal.loop-place-preserved
loop-place-preserved g c =
    let m = g.M.Machine.rules c.args.machine.now in
    let before = c.args.before.now in
    let xs = c.args.moves.now in
    let a = c.loop-place.place in
    let lt = c.loop-place-test.true in
    let i = c.loop-place.invariant in
    let k = rw c.in_default.is at c.in_ok-stop.ensures.after in
    let kept : c.end_run.new.pasts.items ≡ kept_before (get_or xs a (Letter 0 0 0)) c.loop-place.pasts.items c.loop-place.past = c.in_ok-end_run.ensures.ok in
    record {
      after = (c.in_ok-stop.ensures.colours ∙ i.after.0, after_leg m before c.loop-place.past c.walk_past.new.past xs a (a + 1) (omega arith) i.after.1 k.0);
      kept = rw kept (kept_leg m before xs a (a + 1) (Letter 0 0 0) c.loop-place.pasts.items c.loop-place.past (omega arith) (omega arith) (one_move xs a (a + 1) (omega arith)) i.after i.kept);
    }

pub returns : goal.returns
returns g c =
    let m = g.M.Machine.rules c.args.machine.now in
    let xs = c.args.moves.now in
    let i = c.loop-place.invariant in
    let test = c.loop-place-test.false in let end = c.loop-place.auto.place-end in
    let all : c.loop-place.place ≡ length xs = omega arith in
    let whole : letters (take (length xs) xs) ≡ letters xs = ap (λ (ys : List Move). letters ys) (take_all (length xs) xs (omega arith)) in
    are_run_pasts m c.args.before.now xs c.loop-place.pasts.items c.push.new.self.items c.loop-place.past c.requires.order (rw all at i.kept) (rw all at i.after) whole c.in_ok-push.ensures.items
