use Rattle.std.proofs.Common.{arith, inl, inr}
use Rattle.std.proofs.lemmas.Int.{ints, clamps}
use Rattle.reach.proofs.put.add_within.Goals as goal

pub returns-then-from-to : goal.returns-then-from-to
returns-then-from-to c =
    let v = c.max-from.ensures.value in
    let w = c.min-to.ensures.value in
    λ e. let i = c.in_ok-add.ensures.ok e in (
      λ m. elim (i.0 m) [ inl x ↦ inl x | inr y ↦ let a = y.0 in let b = y.1 in inr (omega (arith, ints, clamps), omega (arith, ints, clamps), omega (arith, ints, clamps), omega (arith, ints, clamps)) ],
      λ m. i.1 (elim m [ inl x ↦ inl x | inr y ↦ let a = y.0 in let b = y.1 in let d = y.2 in let f = y.3 in inr (omega (arith, ints, clamps), omega (arith, ints, clamps)) ]),
    )

pub returns : goal.returns
returns c =
    let v = c.max-from.ensures.value in
    let w = c.min-to.ensures.value in
    let f = c.if-from-to.false in
    λ e. (λ m. inl m, λ m. elim m [ inl x ↦ x | inr y ↦ let a = y.0 in let b = y.1 in let d = y.2 in let g = y.3 in absurd (omega (arith, ints, clamps)) ])
