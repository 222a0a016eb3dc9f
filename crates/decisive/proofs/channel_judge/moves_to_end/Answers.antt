use Rattle.std.proofs.Common.{pos}
use Rattle.decisive.specs.Moves.{KeepsBy}
use Rattle.decisive.proofs.Nowhere.{end_none, order_on, order_to, until}
use Rattle.decisive.proofs.channel_judge.moves_to_end.Goals as goal

pub keep_after-requires-clause-order : goal.keep_after-requires-clause-order
keep_after-requires-clause-order g c = rw c.in_ok-kept.ensures (order_to (g.M.Machine.rules c.args.machine.now) c.args.before.now c.args.to.now c.args.after.now c.requires.order)

pub returns-then-not-branch : goal.returns-then-not-branch
returns-then-not-branch g c =
    let m = g.M.Machine.rules c.args.machine.now in
    end_none m c.args.before.now c.args.to.now (KeepsBy c.args.keep (pos c.args.at)) c.args.after.now (rw (c.if-not-branch.true, c.in_ok-kept.ensures) at c.in_ok-keep_after.ensures.states)

pub ending-requires-clause-order : goal.ending-requires-clause-order
ending-requires-clause-order g c =
    let m = g.M.Machine.rules c.args.machine.now in
    order_on m c.args.before.now c.keep_after.new.past c.args.to.now c.args.after.now (KeepsBy c.args.keep (pos c.args.at)) (rw (c.if-not-branch.false, c.in_ok-kept.ensures) at c.in_ok-keep_after.ensures.states) c.requires.order

pub returns : goal.returns
returns g c =
    let m = g.M.Machine.rules c.args.machine.now in
    until m c.args.before.now c.keep_after.new.past c.args.to.now (KeepsBy c.args.keep (pos c.args.at)) c.args.after.now c.ending.result (rw (c.if-not-branch.false, c.in_ok-kept.ensures) at c.in_ok-keep_after.ensures.states) c.ending.ensures
