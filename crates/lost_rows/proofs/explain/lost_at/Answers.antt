use Rattle.std.proofs.Common.{pos, take, drop, length, ◌-◌}
use Rattle.channel_path.proofs.Moving.{order_take}
use Rattle.lost_rows.specs.Credits.{AdmitsLost, HoldsLost}
use Rattle.lost_rows.specs.Decisions.{asked_by, KeepsRule, Passed}
use Rattle.lost_rows.specs.Walks.{ExplainedBy}
use Rattle.lost_rows.proofs.Deciding.{lost_same}
use Rattle.lost_rows.proofs.Explaining.{explained_all, rest_all, rest_order}
use Rattle.lost_rows.proofs.explain.lost_at.Goals as goal

pub pasts_up_to-requires-clause-order : goal.pasts_up_to-requires-clause-order
pasts_up_to-requires-clause-order g c = order_take (g.M.Machine.rules c.args.machine.now) c.args.walk.now.from c.args.place.moves c.args.moves.now c.requires.order

pub aheads_from-aheads-requires-clause-order : goal.aheads_from-aheads-requires-clause-order
aheads_from-aheads-requires-clause-order g c = rest_order (g.M.Machine.rules c.args.machine.now) c.args.walk.now.from c.args.place.moves c.args.moves.now c.requires.order

pub returns : goal.returns
returns g c =
    let m = g.M.Machine.rules c.args.machine.now in
    let r = c.args.walk.now.rule in
    let low = c.args.walk.now.from in
    let high = c.args.walk.now.to in
    let n = c.args.place.moves in
    let at = c.args.place.at in
    let xs = c.args.moves.now in
    let keeps = KeepsRule r (pos at) in
    lost_same (Passed (HoldsLost c.in_ok-pasts.pasts) (AdmitsLost c.aheads_from-aheads.result) keeps) (ExplainedBy m (asked_by r) c.args.before.now c.args.after.now low (take n xs) at (drop n xs) high keeps) c.decide.result (explained_all m (asked_by r) c.asked-asked.result c.args.before.now c.args.after.now c.in_ok-pasts.pasts c.aheads_from-aheads.result low (take n xs) at (drop n xs) (take (length xs - n) (drop n xs)) high keeps c.asked-asked.ensures (rest_all n xs) c.in_ok-pasts.ensures.entered c.requires.later c.in_ok-pasts.ensures.states c.aheads_from-aheads.ensures.states) c.decide.ensures
