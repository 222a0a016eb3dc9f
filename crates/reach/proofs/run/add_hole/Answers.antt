use Rattle.std.proofs.Common.{arith, inl, inr}
use Rattle.std.proofs.lemmas.Int.{ints, clamps}
use Rattle.reach.proofs.run.add_hole.Goals as goal

pub returns-then-start-hole : goal.returns-then-start-hole
returns-then-start-hole c =
    let v = c.max.ensures.value in
    λ e. let i = c.in_ok-add.ensures.ok e in (
      λ m. elim (i.0 m) [ inl x ↦ inl x | inr w ↦ let a = w.0 in let b = w.1 in inr (omega (arith, ints, clamps), (omega (arith, ints, clamps), omega (arith, ints, clamps))) ],
      λ m. i.1 (elim m [ inl x ↦ inl x | inr w ↦ let a = w.0 in let b = w.1.0 in let d = w.1.1 in inr (omega (arith, ints, clamps), omega (arith, ints, clamps)) ]),
    )
