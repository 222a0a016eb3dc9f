use Rattle.std.proofs.Common.{arith, refl, ◌∙◌, subst, ◌≡◌, ◌+◌, ◌-◌, ℕ, inl, inr}
use Rattle.board.specs.Logs.{first_tenth}
use Rattle.decisive.specs.Searches.{ArePlaced}
use Rattle.decisive.proofs.Finished.{begin_asked_in, begin_found, cut_more}
use Rattle.decisive.proofs.GrowLaws.{grow_on, grow_same}
use Rattle.decisive.proofs.within.search_begin.Goals as goal

pub loop-back-init : goal.loop-back-init
loop-back-init g c =
    let e : c.args.hour ≡ c.args.hour - 0 = omega arith in
    let (t, le, placed, cut) = c.requires.place in
    (omega arith, (t, le, subst (λ (h : ℕ). ArePlaced c.args.store.now c.args.first.told (first_tenth h) t 744 c.args.question.now.at c.args.first.place) e placed, cut), refl, grow_same _)

pub begin_in-requires-clause-place : goal.begin_in-requires-clause-place
begin_in-requires-clause-place g c =
    let (t, le, placed, cut) = c.loop-back.invariant.1 in
    begin_asked_in c.args.store.now c.args.question.now c.loop-back.placed (first_tenth (c.args.hour - c.loop-back.back)) t (744 + c.loop-back.back) c.args.end c.requires.parts c.requires.history c.requires.late le placed cut

pub begin_in-requires-2-clause-place : goal.begin_in-requires-2-clause-place
begin_in-requires-2-clause-place g c =
    let (t, le, placed, cut) = c.loop-back.invariant.1 in
    let end = c.loop-back-test.false in
    let zero_is : first_tenth (c.args.hour - c.loop-back.back) ≡ 0 = omega arith in
    begin_asked_in c.args.store.now c.args.question.now c.loop-back.placed 0 t (744 + c.loop-back.back) c.args.end c.requires.parts c.requires.history c.requires.late le (subst (λ (f : ℕ). ArePlaced c.args.store.now c.loop-back.placed.told f t (744 + c.loop-back.back) c.args.question.now.at c.loop-back.placed.place) zero_is placed) cut

pub returns-in-Some-clause-found : goal.returns-in-Some-clause-found
returns-in-Some-clause-found g c =
    let (t, le, placed, cut) = c.loop-back.invariant.1 in
    begin_found c.args.store.now c.args.question.now c.loop-back.placed (c.args.hour - c.loop-back.back) t (744 + c.loop-back.back) _ c.args.end c.in-Some.begin c.requires.late placed cut.0 c.loop-back.invariant.2 (inl (rw c.in-Some.is at c.in_ok-begin.ensures))

pub returns-in_err-placed-clause-grow : goal.returns-in_err-placed-clause-grow
returns-in_err-placed-clause-grow g c = grow_on _ _ _ c.loop-back.invariant.3 c.hour_before.ensures.grow

pub loop-back-preserved : goal.loop-back-preserved
loop-back-preserved g c =
    let hour = c.args.hour in
    let back = c.loop-back.back in
    let small = c.loop-back-test.true in
    let e1 : hour - back ≡ hour - back - 1 + 1 = omega arith in
    let e2 : hour - back - 1 ≡ hour - (back + 1) = omega arith in
    let e3 : 744 + back + 1 ≡ 744 + (back + 1) = omega arith in
    let s = c.args.store.now in
    let x = c.args.question.now.at in
    let old = c.loop-back.placed in
    let new = c.in_ok-placed.placed in
    let (t, le, was, cut) = c.loop-back.invariant.1 in
    let q = subst (λ (h : ℕ). ArePlaced s old.told (first_tenth h) t (744 + back) x old.place) e1 was in
    let r = c.in_ok-placed.ensures.placed t (744 + back) x q in
    let placed = subst (λ (k : ℕ). ArePlaced s new.told (first_tenth (hour - (back + 1))) t k x new.place) e3 (subst (λ (h : ℕ). ArePlaced s new.told (first_tenth h) t (744 + back + 1) x new.place) e2 r) in (
      omega arith,
      (t, le, placed, cut_more s old.told new.told (first_tenth (hour - back)) (first_tenth (hour - (back + 1))) t (744 + back) (744 + (back + 1)) x old.place new.place c.args.end was placed c.requires.late cut),
      c.in_ok-placed.ensures.rank t (744 + back) x q ∙ c.loop-back.invariant.2,
      grow_on _ _ _ c.loop-back.invariant.3 c.hour_before.ensures.grow,
    )

pub returns-in-Some-2-clause-found : goal.returns-in-Some-2-clause-found
returns-in-Some-2-clause-found g c =
    let (t, le, placed, cut) = c.loop-back.invariant.1 in
    begin_found c.args.store.now c.args.question.now c.loop-back.placed (c.args.hour - c.loop-back.back) t (744 + c.loop-back.back) _ c.args.end c.in-Some-2.begin c.requires.late placed cut.0 c.loop-back.invariant.2 (inl (rw c.in-Some-2.is at c.in_ok-begin-2.ensures))

pub returns-clause-found : goal.returns-clause-found
returns-clause-found g c =
    let (t, le, placed, cut) = c.loop-back.invariant.1 in
    let end = c.loop-back-test.false in
    let zero_is : c.args.hour - c.loop-back.back ≡ 0 = omega arith in
    begin_found c.args.store.now c.args.question.now c.loop-back.placed (c.args.hour - c.loop-back.back) t (744 + c.loop-back.back) _ c.args.end 0 c.requires.late placed cut.0 c.loop-back.invariant.2 (inr (zero_is, refl, rw c.in-None-2.is at c.in_ok-begin-2.ensures))
