use Rattle.std.proofs.Common.{arith, ◌∙◌}
use Rattle.std.proofs.lemmas.Int.{ints, to_z-of_z}
use Rattle.gap_ways.proofs.Asking.{early_more}
use Rattle.gap_ways.proofs.narrow.early_states.Goals as goal

pub loop-colour-preserved : goal.loop-colour-preserved
loop-colour-preserved g c =
    let rf = c.ranges.from in let low = c.requires.low in
    let i = simp to_z-of_z at c.loop-colour.invariant in
    let kept = simp to_z-of_z at c.in_ok-past_keep.ensures.states in
    (c.in_ok-past_keep.ensures.colours ∙ i.0, simp to_z-of_z (early_more c.args.past.now c.loop-colour.early c.past_keep.new.past c.loop-colour.colour c.args.from _ (omega (arith, ints)) i.1 kept))
