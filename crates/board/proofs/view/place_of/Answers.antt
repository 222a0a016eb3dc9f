use Rattle.std.proofs.Common.{arith, ◌+◌, ◌-◌, ◌/◌}
use Rattle.std.proofs.lemmas.Int.{to_z-of_z}
use Rattle.board.proofs.Viewing.{went_up, went_down}
use Rattle.board.proofs.view.place_of.Goals as goal
use Rattle.board.proofs.view.place_of.Goals.{then-is_before, else-is_before}

pub search-preserved : goal.search-preserved
search-preserved c =
    let r = c.ranges.at in
    let i = simp to_z-of_z at c.search.invariant in
    let e = simp to_z-of_z at c.is_before.ensures in
    let l0 = i.0 in
    let t = c.search-test.true in
    let high = c.search.low + c.search.left in
    let half = c.search.left - c.search.left / 2 in
    elim c.if-is_before.branch [
      | then-is_before w ↦
          let at = w.low-is in
          let up = went_up c.args.at c.args.index c.args.moves.now c.search.low high (c.search.low + half - 1) c.is_before.result (omega arith) e w.if-is_before.true i.1 in
          simp to_z-of_z (omega arith, λ j s. let k = up j s in let a = k.0 in let b = k.1 in (omega arith, omega arith))
      | else-is_before w ↦
          let at = w.low-is in
          let down = went_down c.args.at c.args.index c.args.moves.now c.search.low high (c.search.low + half - 1) c.is_before.result e w.if-is_before.false i.1 in
          simp to_z-of_z (omega arith, λ j s. let k = down j s in let a = k.0 in let b = k.1 in (omega arith, omega arith))
    ]

pub returns-clause-place : goal.returns-clause-place
returns-clause-place c =
    let r = c.ranges.at in
    let i = simp to_z-of_z at c.search.invariant in
    let t = c.search-test.false in
    λ j s. let k = i.1 j s in let a = k.0 in let b = k.1 in omega arith

pub search-init : goal.search-init
search-init c =
    let r = c.ranges.at in
    let below = simp to_z-of_z at c.low_of.ensures in
    let above = simp to_z-of_z at c.high_of-high.ensures.place in
    let within = c.high_of-high.ensures.within in
    let least = c.min-low.ensures in
    simp to_z-of_z (omega arith, λ j s. let a = below j s in let b = above j s in (omega arith, omega arith))
