use Rattle.std.proofs.Common.{◌≡◌}
use Rattle.channel_path.proofs.Telling.{one_left, never_stops}
use Rattle.channel_path.proofs.near.one_after.Goals as goal

pub returns-clause-after : goal.returns-clause-after
returns-clause-after g c =
    let k = c.in_ok-walk_past.ensures in
    let past : c.in_ok-past.past ≡ c.args.before.now = c.in_ok-past.ensures in
    let after = (never_stops c.in_ok-walk_past.field-0 _ _ (c.if-is_some.ensures) k.after).0 in
    one_left (g.M.Machine.rules c.args.machine.now) c.args.before.now c.walk_past.new.past c.args.moves.now c.single.result c.single.ensures.states (rw past at after)
