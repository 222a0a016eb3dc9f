-- An end of yellow in its own words.
use Rattle.std.proofs.Common.{◌≡◌, ℕ, ◌≤◌, Bool, true, false, not, ◌&&◌, cond, List, [], ◌∷◌, ◌++◌, Option, Some, None, refl, ap, subst, ◌∙◌, arith, inl, inr}
use Rattle.std.specs.Prelude.{is_some, All}
use Rattle.std.specs.List.{list_any}
use Rattle.std.proofs.lemmas.List.Elements.{All-nil, All-cons}
use Rattle.std.proofs.lemmas.Bool.{cases_Bool, and_parts, not-true}
use Rattle.sig_base.specs.declared.values.Row.{Row}
use Rattle.hour_sweep.specs.Rows.{kept_last, last_with, live}
use Rattle.hour_sweep.specs.Hours.{AreOrdered}
use Rattle.hour_sweep.proofs.Places.{AllLast, last_with_all}
use Rattle.service_cut.specs.declared.signs.Sign.{Sign}
use Rattle.service_cut.specs.declared.signs.Sign.TheVariants.{Begin, Change, Yellow, End, Cause, Other}
use Rattle.service_cut.specs.Signs.{sign, is_yellow, is_end}
use Rattle.service_cut.specs.Cycles.{yellow_in, yellow_of, is_yellow_end}
use Rattle.service_cut.specs.Whole.{IsYellowEnd}
use Rattle.service_cut.proofs.WholeServices.{LastIs, last_is, any_none, none_any, live_all_known, all_known_at}

yellow_from : (known : ℕ → Bool) (p : ℕ) (before : List Row) (r : Row) (o : Option (Row × List Row)) → known r.at ≡ true → LastIs (λ z. is_yellow (sign p z)) before o → (is_end (sign p r) && is_some (yellow_in known r.at p o)) ≡ true → IsYellowEnd known p before r
yellow_from known p before r None k li e = absurd (let h = and_parts (is_end (sign p r)) false e in let f : false ≡ true = h.1 in cc)
yellow_from known p before r (Some f) k li e =
    let h = and_parts (is_end (sign p r)) (is_some (cond (live known f.0.at r.at && not (list_any (λ z. is_end (sign p z)) f.1)) (Some f.0) None)) e in
    elim (cases_Bool (live known f.0.at r.at && not (list_any (λ z. is_end (sign p z)) f.1))) [
      | inl t ↦
          let parts = and_parts (live known f.0.at r.at) (not (list_any (λ z. is_end (sign p z)) f.1)) t in
          record { y = f.0; to_y = li.0; from_y = f.1; joined = li.1.joined; y_is = li.1.passes; none = any_none (λ z. is_end (sign p z)) f.1 (not-true (list_any (λ z. is_end (sign p z)) f.1) parts.1); r_is = h.0; all_known = live_all_known known f.0.at r.at parts.0 k }
      | inr n ↦ absurd (let g : false ≡ true = rw n at h.1 in cc)
    ]

pub yellow_is : (known : ℕ → Bool) (p : ℕ) (before : List Row) (r : Row) → known r.at ≡ true → is_yellow_end known p before r ≡ true → IsYellowEnd known p before r
unfolding is_yellow_end yellow_of
yellow_is known p before r k e = yellow_from known p before r (last_with (λ z. is_yellow (sign p z)) before) k (last_is (λ z. is_yellow (sign p z)) before) e

-- the converse: of several rows 8 the last one serves

over_front : (p : Row → Bool) (xs ys : List Row) (f : Row × List Row) → last_with p ys ≡ Some f → last_with p (xs ++ ys) ≡ Some f
over_front p [] ys f e = e
over_front p (x ∷ xs) ys f e = rw (over_front p xs ys f e) refl

some_kept : (p : Row → Bool) (y : Row) (ys : List Row) (o : Option (Row × List Row)) → p y ≡ true → (f : Row × List Row) × (kept_last o (p y) y ys ≡ Some f)
some_kept p y ys None e = ((y, ys), rw e refl)
some_kept p y ys (Some f) e = (f, refl)

yellow_no_end : (s : Sign) → is_yellow s ≡ true → is_end s ≡ false
yellow_no_end Begin e = refl
yellow_no_end Change e = refl
yellow_no_end Yellow e = refl
yellow_no_end End e = cc
yellow_no_end Cause e = refl
yellow_no_end Other e = refl

pub from_first : (a b c : ℕ) (xs : List Row) → c ≤ a → AreOrdered a b xs → All (λ z. c ≤ z.at) xs
from_first a b c [] le h = All-nil (λ z. c ≤ z.at)
from_first a b c (x ∷ xs) le h = let l = h.0 in All-cons (λ z. c ≤ z.at) x xs (omega arith) (from_first x.at b c xs (omega arith) h.2)

tail_ordered : (a b : ℕ) (xs : List Row) (y : Row) (ys : List Row) → AreOrdered a b (xs ++ y ∷ ys) → All (λ z. y.at ≤ z.at) (y ∷ ys)
tail_ordered a b [] y ys h = All-cons (λ z. y.at ≤ z.at) y ys (omega arith) (from_first y.at b y.at ys (omega arith) h.2)
tail_ordered a b (x ∷ xs) y ys h = tail_ordered x.at b xs y ys h.2

pub is_yellow_at : (known : ℕ → Bool) (p a b : ℕ) (before : List Row) (r : Row) → AreOrdered a b before → IsYellowEnd known p before r → is_yellow_end known p before r ≡ true
unfolding is_yellow_end yellow_of
is_yellow_at known p a b before r or w =
    let yellow : Row → Bool = λ z. is_yellow (sign p z) in
    let end : Row → Bool = λ z. is_end (sign p z) in
    let some = some_kept yellow w.y w.from_y (last_with yellow w.from_y) w.y_is in
    let f = some.0 in
    let here : last_with yellow (w.y ∷ w.from_y) ≡ Some f = some.1 in
    let all : last_with yellow before ≡ Some f = ap (λ zs. last_with yellow zs) w.joined ∙ over_front yellow w.to_y (w.y ∷ w.from_y) f here in
    let none = subst (λ (o : Option (Row × List Row)). AllLast (λ z. is_end (sign p z) ≡ false) o) here (last_with_all (λ z. is_end (sign p z) ≡ false) yellow (w.y ∷ w.from_y) (All-cons (λ z. is_end (sign p z) ≡ false) w.y w.from_y (yellow_no_end (sign p w.y) w.y_is) w.none)) in
    let or' = subst (λ (zs : List Row). AreOrdered a b zs) w.joined or in
    let later = subst (λ (o : Option (Row × List Row)). AllLast (λ z. w.y.at ≤ z.at) o) here (last_with_all (λ z. w.y.at ≤ z.at) yellow (w.y ∷ w.from_y) (tail_ordered a b w.to_y w.y w.from_y or')) in
    let le = later.0 in
    let lv : live known f.0.at r.at ≡ true = all_known_at known f.0.at r.at (λ t lo hi. w.all_known t (omega arith) hi) in
    rw (w.r_is, all, lv, none_any end f.1 none.1) refl
