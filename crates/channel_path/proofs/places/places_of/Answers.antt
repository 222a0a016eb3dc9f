use Rattle.std.proofs.Common.{length, drop}
use Rattle.channel_path.proofs.Moving.{leg_order, order_take}
use Rattle.channel_path.proofs.Certain.{rest_slice, first_past, certain_on, goes_first, head_keeps}
use Rattle.channel_path.proofs.places.places_of.Goals as goal

pub sure_at-requires-clause-order : goal.sure_at-requires-clause-order
sure_at-requires-clause-order g c =
    let m = g.M.Machine.rules c.args.machine.now in
    let xs = c.args.moves.now in
    let first = c.in_ok-pasts.first in
    let k = c.in_ok-pasts.ensures in
    let past = first_past m c.args.before.now xs first c.in_ok-pasts.pasts k.within k.pasts in
    leg_order m c.args.before.now c.past_at-past.result.now xs first (length xs) c.requires.order (rw c.past_at-past.ensures past.2)

pub aheads_of-requires-clause-pasts : goal.aheads_of-requires-clause-pasts
aheads_of-requires-clause-pasts g c =
    let m = g.M.Machine.rules c.args.machine.now in
    let xs = c.args.moves.now in
    let first = c.in_ok-pasts.first in
    let k = c.in_ok-pasts.ensures in
    let (low, early, order) = c.requires.order in
    (k.runs, (c.args.before.now, (low, early, order_take m low first xs order), k.pasts))

pub returns-in-Some : goal.returns-in-Some
returns-in-Some g c =
    let m = g.M.Machine.rules c.args.machine.now in
    let before = c.args.before.now in
    let after = c.args.after.now in
    let xs = c.args.moves.now in
    let first = c.in_ok-pasts.first in
    let pasts = c.in_ok-pasts.pasts in
    let k = c.in_ok-pasts.ensures in
    let sure = c.in-Some.sure.items in
    let past = first_past m before xs first pasts k.within k.pasts in
    let certain = rw (c.in-Some.is, c.past_at-past.ensures, rest_slice xs first) at c.in_ok-sure.ensures.certain in
    let admits = rw (c.in-Some.is, c.past_at-past.ensures) at c.in_ok-sure.ensures.admits in (
      head_keeps m before after c.end-all.result xs first pasts c.in_ok-aheads.aheads k.within c.requires.order k.runs k.pasts c.in_ok-aheads.ensures.places c.in_ok-aheads.ensures.aheads admits (goes_first m _ after (drop first xs) sure certain),
      certain_on m before _ after xs first sure k.within past.2 certain,
    )
