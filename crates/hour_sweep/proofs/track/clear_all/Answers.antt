use Rattle.std.proofs.Common.{arith, ◌∙◌, ap, sym}
use Rattle.std.specs.Prelude.{option_map}
use Rattle.hour_sweep.proofs.Loops.{over_more}
use Rattle.hour_sweep.proofs.track.clear_all.Goals as goal

pub loop-part-preserved : goal.loop-part-preserved
loop-part-preserved g c = over_more (option_map g.T.Track.clear) c.args.parts.now c.loop-part.parts c.loop-part.part-index c.part-item.result _ (omega arith) c.loop-part.invariant c.part-item.is (c.cleared_part.ensures ∙ ap (option_map g.T.Track.clear) (sym c.part-item.is))
