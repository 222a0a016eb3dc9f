use Rattle.std.proofs.Common.{rules, arith, pos, w64, get_or}
use Rattle.std.specs.Prelude.{FitsSigned}
use Rattle.std.proofs.lemmas.Int.{ints, to_z-of_z}
use Rattle.span_set.specs.Changes.{span}
use Rattle.span_set.proofs.Sets.{end_more}
use Rattle.span_set.proofs.search.ended_by.Goals as goal

pub loop-i-preserved : goal.loop-i-preserved
loop-i-preserved c =
    let r = c.ranges.at in
    let f : FitsSigned w64 (get_or c.args.spans.now c.loop-i.i (span (pos 0) (pos 0))).to = search rules in
    simp to_z-of_z (end_more c.args.at c.args.spans.now c.loop-i.i (span (pos 0) (pos 0)) c.loop-i-test.true (omega (arith, ints)) (simp to_z-of_z at c.loop-i.invariant))
