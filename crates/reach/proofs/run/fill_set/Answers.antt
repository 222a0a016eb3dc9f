use Rattle.std.proofs.Common.{arith, pos}
use Rattle.std.proofs.lemmas.Int.{ints, to_z-of_z}
use Rattle.span_set.specs.Changes.{span}
use Rattle.reach.proofs.Filling.{hole_bounds, fill_more}
use Rattle.reach.proofs.run.fill_set.Goals as goal

pub add_hole-requires-clause-low : goal.add_hole-requires-clause-low
add_hole-requires-clause-low c = let b = hole_bounds c.args.holes.now c.args.from c.args.to c.loop-i.i (span (pos 0) (pos 0)) c.requires.holes c.loop-i-test.true in let x = b.0 in let l = c.requires.low in omega (arith, ints)

pub add_hole-requires-clause-some : goal.add_hole-requires-clause-some
add_hole-requires-clause-some c = (hole_bounds c.args.holes.now c.args.from c.args.to c.loop-i.i (span (pos 0) (pos 0)) c.requires.holes c.loop-i-test.true).1

pub add_hole-requires-clause-high : goal.add_hole-requires-clause-high
add_hole-requires-clause-high c = let b = hole_bounds c.args.holes.now c.args.from c.args.to c.loop-i.i (span (pos 0) (pos 0)) c.requires.holes c.loop-i-test.true in let x = b.2 in let l = c.requires.high in omega (arith, ints)

pub loop-i-preserved : goal.loop-i-preserved
loop-i-preserved c =
    let rs = c.ranges.start in
    let i = simp to_z-of_z at c.loop-i.invariant in
    let one = simp to_z-of_z at c.in_ok-add_hole.ensures in
    simp to_z-of_z (fill_more c.args.holes.now c.args.set.now c.loop-i.set c.add_hole.new.set c.args.start c.loop-i.i _ c.loop-i-test.true i one)
