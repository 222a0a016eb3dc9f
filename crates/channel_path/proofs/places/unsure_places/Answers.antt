use Rattle.std.proofs.Common.{refl, ap, ◌+◌, length}
use Rattle.channel_path.proofs.Certain.{unsure_keeps}
use Rattle.channel_path.proofs.places.unsure_places.Goals as goal

pub returns : goal.returns
returns g c =
    let m = g.M.Machine.rules c.args.machine.now in
    unsure_keeps m c.args.before.now c.args.after.now c.args.moves.now (length c.args.moves.now + 1) c.args.pasts c.in_ok-aheads.aheads c.new.result.items c.requires.runs c.requires.pasts c.in_ok-aheads.ensures.places c.in_ok-aheads.ensures.aheads refl (ap length c.new.ensures.items)
