use Rattle.std.proofs.Common.{arith, refl, pos, ◌+◌, ◌-◌, ◌/◌, ◌+ℤ◌}
use Rattle.std.proofs.lemmas.Int.{ints, to_z-of_z}
use Rattle.gap_ways.proofs.Asking.{search_down, search_up, search_ends}
use Rattle.gap_ways.proofs.ask.first_old.Goals as goal

pub search-preserved-then-has_old : goal.search-preserved-then-has_old
search-preserved-then-has_old g c =
    let rf = c.ranges.from in let rt = c.ranges.to in
    let i = simp to_z-of_z at c.search.invariant in
    let i0 = i.0 in let i1 = i.1 in let t = c.search-test.true in
    let low = c.requires.low in let high = c.requires.high in
    let (e, m, o) = c.if-has_old.ensures.0 refl in
    simp to_z-of_z (omega arith, omega (arith, ints), search_down _ _ c.args.from c.args.to (c.args.from +ℤ pos c.search.low) (c.args.from +ℤ pos c.search.high) (c.args.from +ℤ pos (c.search.low + (c.search.high - c.search.low) / 2)) (e, m, omega (arith, ints)) i.2)

pub search-preserved : goal.search-preserved
search-preserved g c =
    let rf = c.ranges.from in let rt = c.ranges.to in
    let i = simp to_z-of_z at c.search.invariant in
    let i0 = i.0 in let i1 = i.1 in let t = c.search-test.true in
    let low = c.requires.low in let high = c.requires.high in
    simp to_z-of_z (omega arith, i.1, search_up _ _ c.args.from c.args.to (c.args.from +ℤ pos c.search.low) (c.args.from +ℤ pos c.search.high) (c.args.from +ℤ pos (c.search.low + (c.search.high - c.search.low) / 2)) _ (λ (e, m, o). let k = c.if-has_old.ensures.1 (e, m, omega (arith, ints)) in absurd (cc)) (omega (arith, ints)) i.2)

pub returns : goal.returns
returns g c =
    let rf = c.ranges.from in let rt = c.ranges.to in
    let i = simp to_z-of_z at c.search.invariant in
    let i0 = i.0 in let i1 = i.1 in let t = c.search-test.false in
    let low = c.requires.low in let high = c.requires.high in
    search_ends _ _ c.args.from c.args.to (c.args.from +ℤ pos c.search.low) (c.args.from +ℤ pos c.search.high) _ (omega (arith, ints)) (omega (arith, ints)) (omega (arith, ints)) (omega (arith, ints)) i.2
