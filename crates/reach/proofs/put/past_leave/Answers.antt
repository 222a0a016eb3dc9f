use Rattle.std.proofs.Common.{arith, inl, inr}
use Rattle.std.proofs.lemmas.Int.{ints}
use Rattle.reach.proofs.Alone.{held_one, single_one, on_ok}
use Rattle.reach.proofs.Putting.{left_single}
use Rattle.reach.proofs.put.past_leave.Goals as goal

pub returns-in-Some : goal.returns-in-Some
returns-in-Some c =
    let o = c.in-Some.one in
    let now = held_one c.past.inside.one o c.past.inside.sets.items c.args.past.now c.in-Some.is c.past.view_is in
    let is = single_one c.past.inside.one o c.in-Some.is c.past.invariant in
    let low = is.low in
    let high = is.high in
    on_ok c.leave_range.result _ _ (λ h. left_single o c.args.past.now c.args.colour c.args.into.now c.leave_range.new.into c.args.times is now c.if-one-colour.true (λ t. let i = h t in (
      λ m. elim (i.0 m) [ inl x ↦ inl x | inr x ↦ let p = x.1.0 in let q = x.1.1 in inr (x.0, (omega (arith, ints), omega (arith, ints)), x.2) ],
      λ m. i.1 (elim m [ inl x ↦ inl x | inr x ↦ let p = x.1.0 in let q = x.1.1 in inr (x.0, (omega (arith, ints), omega (arith, ints)), x.2) ]),
    ))) c.leave_range.ensures
