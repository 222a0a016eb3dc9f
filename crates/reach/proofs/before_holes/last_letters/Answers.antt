use Rattle.reach.proofs.Returning.{later_in_more}
use Rattle.reach.proofs.before_holes.last_letters.Goals as goal

pub loop-letter-preserved : goal.loop-letter-preserved
loop-letter-preserved g c =
    let m = g.M.Machine.rules c.args.machine.now in
    later_in_more m c.args.latest.now c.args.last.now c.args.holes.now c.args.colour c.loop-letter.letter c.loop-letter.hole c.last_by-hole.result c.loop-letter.invariant c.last_by-hole.ensures.hole c.last_by-hole.ensures.left
