use Rattle.std.proofs.Common.{arith, refl}
use Rattle.std.proofs.lemmas.Int.{ints, to_z-of_z}
use Rattle.gap_ways.proofs.Asking.{first_least, first_in_time, first_member}
use Rattle.gap_ways.proofs.ask.old_entry.Goals as goal

pub returns-clause-member : goal.returns-clause-member
returns-clause-member g c =
    let ra = c.ranges.at in let low = c.requires.low in let high = c.requires.high in
    let fl = c.floor.ensures in
    let first = simp to_z-of_z at c.first_old.ensures in
    let x = first_in_time c.args.past.now c.args.colour _ _ _ c.first_old.result c.requires.none_older refl first c.args.at (omega (arith, ints)) c.requires.some in
    first_member c.args.past.now c.args.colour _ _ _ c.first_old.result c.requires.none_older refl first _ (omega (arith, ints)) (omega (arith, ints))

pub returns-clause-old : goal.returns-clause-old
returns-clause-old g c =
    let ra = c.ranges.at in let low = c.requires.low in let high = c.requires.high in
    let fl = c.floor.ensures in
    let first = simp to_z-of_z at c.first_old.ensures in
    let x = first_in_time c.args.past.now c.args.colour _ _ _ c.first_old.result c.requires.none_older refl first c.args.at (omega (arith, ints)) c.requires.some in
    let begin = first.1 in
    omega (arith, ints)

pub returns-clause-least : goal.returns-clause-least
returns-clause-least g c =
    let ra = c.ranges.at in let low = c.requires.low in let high = c.requires.high in
    let fl = c.floor.ensures in
    let first = simp to_z-of_z at c.first_old.ensures in
    let begin = first.1 in
    let x = first_in_time c.args.past.now c.args.colour _ _ _ c.first_old.result c.requires.none_older refl first c.args.at (omega (arith, ints)) c.requires.some in
    first_least c.args.past.now c.args.colour _ _ _ c.first_old.result c.requires.none_older refl first _ (omega (arith, ints)) (omega (arith, ints))
