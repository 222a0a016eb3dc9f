use Rattle.std.proofs.Common.{arith, ◌∙◌, length, drop}
use Rattle.std.proofs.lemmas.Result.{on_ok_weaker}
use Rattle.reach.specs.Ahead.{Admits}
use Rattle.reach.specs.Last.{BeforeGaps}
use Rattle.reach.proofs.Later.{then_iff}
use Rattle.channel_path.specs.Walks.{BeforeMoves}
use Rattle.channel_path.proofs.Legs.{leg_gaps}
use Rattle.channel_path.proofs.Holes.{leg_holes, gaps_length}
use Rattle.channel_path.proofs.Standing.{adds_same, before_none, holes_moves}
use Rattle.channel_path.proofs.ahead.leg_ahead.Goals as goal

pub returns-then-leg-eq1-clause-places : goal.returns-then-leg-eq1-clause-places
returns-then-leg-eq1-clause-places g c =
    let m = g.M.Machine.rules c.args.machine.now in
    let ahead = c.args.ahead.now in
    let leg = c.args.leg.now in
    let one = c.if-leg-eq1.true in
    rw one (adds_same m.colours c.args.past.now 0 1 (λ j. Admits ahead) (λ j. BeforeMoves m ahead (drop j leg)) c.args.places.now c.add_place.new.places (λ j some le s. before_none m ahead leg j (omega arith) s) (rw c.requires.colours at c.in_ok-add_place.ensures))

pub put_holes-requires : goal.put_holes-requires
put_holes-requires g c = let some = c.requires.some in let more = c.if-leg-eq1.false in leg_gaps c.args.leg.now (omega arith) c.requires.leg

pub holes_ahead-requires-clause-holes : goal.holes_ahead-requires-clause-holes
holes_ahead-requires-clause-holes g c =
    let k = c.in_ok-put_holes.ensures in
    rw c.as_slice.ensures.value (leg_holes (g.M.Machine.rules c.args.machine.now) c.requires.order.0 c.put_holes.new.holes.items c.args.leg.now k.holes c.requires.order.1 c.requires.leg k.end)

pub returns-clause-before : goal.returns-clause-before
returns-clause-before g c =
    let m = g.M.Machine.rules c.args.machine.now in
    let same = holes_moves m c.args.ahead.now c.put_holes.new.holes.items c.args.leg.now c.in_ok-put_holes.ensures.holes 0 in
    on_ok_weaker c.holes_ahead.result (λ before. (c.holes_ahead.ensures.colours ∙ c.requires.colours, λ s enters. then_iff (before s) (same s))) (rw c.as_slice.ensures.value at c.holes_ahead.ensures.before)

pub returns-clause-places : goal.returns-clause-places
returns-clause-places g c =
    let m = g.M.Machine.rules c.args.machine.now in
    let ahead = c.args.ahead.now in
    let hs = c.put_holes.new.holes.items in
    let leg = c.args.leg.now in
    let gaps = c.in_ok-put_holes.ensures.holes in
    let same = holes_moves m ahead hs leg gaps in
    on_ok_weaker c.holes_ahead.result
    (λ adds. rw (← gaps_length hs leg gaps) (adds_same m.colours c.args.past.now 0 (length hs) (λ j. BeforeGaps m ahead (drop j hs)) (λ j. BeforeMoves m ahead (drop j leg)) c.args.places.now c.holes_ahead.new.places (λ j some le. same j) adds))
    (rw c.as_slice.ensures.value at c.holes_ahead.ensures.places)
