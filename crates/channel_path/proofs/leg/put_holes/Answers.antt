use Rattle.channel_path.specs.declared.moves.Move.TheVariants.{Letter}
use Rattle.channel_path.proofs.Holes.{gaps_more}
use Rattle.channel_path.proofs.leg.put_holes.Goals as goal

pub loop-one-preserved : goal.loop-one-preserved
loop-one-preserved c =
    let i = c.loop-one.one-index in
    let lt = c.loop-one-test.true in
    let k = c.in_ok-put_hole.ensures in
    (rw k.hole (gaps_more c.loop-one.holes.items c.args.gaps.now i (Letter 0 0 0) lt (c.requires i (Letter 0 0 0) lt) c.loop-one.invariant.0), k.end c.loop-one.invariant.1)
