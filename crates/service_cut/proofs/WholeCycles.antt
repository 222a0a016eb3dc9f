-- A whole cycle in its own words.
use Rattle.std.proofs.Common.{◌≡◌, ℕ, Bool, true, false, cond, List, [], ◌∷◌, ◌++◌, Option, Some, None, refl, ap, sym, subst, ◌∙◌, append_assoc, arith, inl, inr}
use Rattle.std.specs.Prelude.{All}
use Rattle.std.proofs.lemmas.List.{append-nil}
use Rattle.std.proofs.lemmas.List.Elements.{All-head, All-tail}
use Rattle.std.proofs.lemmas.Bool.{cases_Bool, false_from_ne_true}
use Rattle.sig_base.specs.declared.values.Row.{Row}
use Rattle.sig_base.proofs.Common.{clash}
use Rattle.hour_sweep.specs.Rows.{kept_last, last, live}
use Rattle.hour_sweep.specs.Hours.{AreOrdered}
use Rattle.service_cut.specs.declared.items.Cycle.{Cycle}
use Rattle.service_cut.specs.Signs.{sign, is_begin, is_yellow}
use Rattle.service_cut.specs.Cycles.{is_yellow_end, last_end_from, cycle_begun_in, cycle_begun_of, cycle_of, cycle_at, offset_of}
use Rattle.service_cut.specs.Whole.{IsCycle}
use Rattle.service_cut.proofs.WholeServices.{live_all_known, all_known_at}
use Rattle.service_cut.proofs.YellowEnds.{yellow_is, is_yellow_at}

-- no row of these is a yellow end, where the first rows stand before them
abbrev pub NoEnd : (ℕ → Bool) → ℕ → List Row → List Row → Type 0
NoEnd known p before rows = (xs : List Row) (x : Row) (ys : List Row) → rows ≡ xs ++ x ∷ ys → is_yellow_end known p (before ++ xs) x ≡ false

abbrev pub EndIs : (ℕ → Bool) → ℕ → List Row → List Row → Option (Row × List Row) → Type 0
EndIs known p before rows None = NoEnd known p before rows
EndIs known p before rows (Some f) = (front : List Row) × (rows ≡ front ++ f.0 ∷ f.1) × (is_yellow_end known p (before ++ front) f.0 ≡ true) × NoEnd known p (before ++ front ++ f.0 ∷ []) f.1

no_end_more : (known : ℕ → Bool) (p : ℕ) (before : List Row) (x : Row) (rows : List Row) → is_yellow_end known p before x ≡ false → NoEnd known p (before ++ x ∷ []) rows → NoEnd known p before (x ∷ rows)
no_end_more known p before x rows e n [] y ys s =
    let same : x ≡ y = cc in
    rw (append-nil before, ← same) e
no_end_more known p before x rows e n (z ∷ xs) y ys s =
    let same : x ≡ z = cc in
    let more : rows ≡ xs ++ y ∷ ys = cc in
    rw (← same) (subst (λ (zs : List Row). is_yellow_end known p zs y ≡ false) (append_assoc before (x ∷ []) xs) (n xs y ys more))

kept_end : (known : ℕ → Bool) (p : ℕ) (before : List Row) (x : Row) (rows : List Row) (o : Option (Row × List Row)) → EndIs known p (before ++ x ∷ []) rows o → EndIs known p before (x ∷ rows) (kept_last o (is_yellow_end known p before x) x rows)
kept_end known p before x rows (Some f) h =
    let assoc = append_assoc before (x ∷ []) h.0 in
    (x ∷ h.0, ap (λ zs. x ∷ zs) h.1, subst (λ (zs : List Row). is_yellow_end known p zs f.0 ≡ true) assoc h.2, subst (λ (zs : List Row). NoEnd known p (zs ++ f.0 ∷ []) f.1) assoc h.3)
kept_end known p before x rows None h =
    elim (cases_Bool (is_yellow_end known p before x)) [
      | inl e ↦ subst (λ (b : Bool). EndIs known p before (x ∷ rows) (kept_last None b x rows)) (sym e) ([], refl, rw (append-nil before) e, subst (λ (zs : List Row). NoEnd known p (zs ++ x ∷ []) rows) (sym (append-nil before)) h)
      | inr e ↦ subst (λ (b : Bool). EndIs known p before (x ∷ rows) (kept_last None b x rows)) (sym e) (no_end_more known p before x rows e h)
    ]

nil_not : (xs : List Row) (x : Row) (ys : List Row) → [] ≡ xs ++ x ∷ ys → ⊥
nil_not [] x ys e = cc
nil_not (z ∷ xs) x ys e = cc

no_rows : (known : ℕ → Bool) (p : ℕ) (before : List Row) → NoEnd known p before []
no_rows known p before xs x ys e = absurd (nil_not xs x ys e)

pub end_is : (known : ℕ → Bool) (p : ℕ) (before rows : List Row) → EndIs known p before rows (last_end_from known p before rows)
end_is known p before [] = no_rows known p before
end_is known p before (x ∷ rows) = kept_end known p before x rows (last_end_from known p (before ++ x ∷ []) rows) (end_is known p (before ++ x ∷ []) rows)

-- small facts

front_known : (known : ℕ → Bool) (front : List Row) (x : Row) (back : List Row) → All (λ z. known z.at ≡ true) (front ++ x ∷ back) → known x.at ≡ true
front_known known [] x back h = All-head (λ z. known z.at ≡ true) x back h
front_known known (z ∷ front) x back h = front_known known front x back (All-tail (λ z. known z.at ≡ true) z (front ++ x ∷ back) h)

member_known : (known : ℕ → Bool) (before front : List Row) (x : Row) (back : List Row) → before ≡ front ++ x ∷ back → All (λ z. known z.at ≡ true) before → known x.at ≡ true
member_known known before front x back e h = front_known known front x back (subst (λ (zs : List Row). All (λ z. known z.at ≡ true) zs) e h)

pub front_ordered : (a b : ℕ) (front : List Row) (x : Row) (back : List Row) → AreOrdered a b (front ++ x ∷ back) → AreOrdered a b front
front_ordered a b [] x back h = let l = h.0 in let u = h.1 in omega arith
front_ordered a b (z ∷ front) x back h = (h.0, h.1, front_ordered z.at b front x back h.2)

-- the cycle that ends with a row is whole

cycle_in : (known : ℕ → Bool) (p a b : ℕ) (before : List Row) (r : Row) (c : Cycle) (o : Option (Row × List Row)) → AreOrdered a b before → All (λ z. known z.at ≡ true) before → known r.at ≡ true → is_yellow_end known p before r ≡ true → EndIs known p [] before o → cycle_of p (cycle_begun_in known r.at p o) r ≡ Some c → IsCycle known p before r c
cycle_in known p a b before r c None or kb k ye h e = cc
cycle_in known p a b before r c (Some f) or kb k ye h e =
    elim (cases_Bool (live known f.0.at r.at)) [
      | inl l ↦
          let e1 = rw l at e in
          let plain : c ≡ record { phase = p; from = f.0.at; to = r.at; green = offset_of f.0.at (last (λ z. is_begin (sign p z)) f.1); yellow = offset_of f.0.at (last (λ z. is_yellow (sign p z)) f.1) } = cc in
          record {
            from = f.0;
            to_from = h.0;
            between = f.1;
            joined = h.1;
            first = yellow_is known p h.0 f.0 (member_known known before h.0 f.0 f.1 h.1 kb) h.2;
            second = yellow_is known p before r k ye;
            none = λ xs x ys s w. clash (is_yellow_end known p (h.0 ++ f.0 ∷ xs) x)
                (is_yellow_at known p a b (h.0 ++ f.0 ∷ xs) x (front_ordered a b (h.0 ++ f.0 ∷ xs) x ys (subst (λ (zs : List Row). AreOrdered a b zs) (h.1 ∙ ap (λ zs. h.0 ++ f.0 ∷ zs) s ∙ sym (append_assoc h.0 (f.0 ∷ xs) (x ∷ ys))) or)) w)
                (subst (λ (zs : List Row). is_yellow_end known p zs x ≡ false) (append_assoc h.0 (f.0 ∷ []) xs) (h.3 xs x ys s));
            all_known = live_all_known known f.0.at r.at l k;
            c_is = plain;
          }
      | inr l ↦ absurd (let e1 : None ≡ Some c = rw l at e in cc)
    ]

pub if_true : (b : Bool) (o : Option Cycle) (c : Cycle) → cond b o None ≡ Some c → (b ≡ true) × (o ≡ Some c)
if_true true o c e = (refl, e)
if_true false o c e = cc

pub cycle_is_whole : (known : ℕ → Bool) (p a b : ℕ) (before : List Row) (r : Row) (c : Cycle) → AreOrdered a b before → All (λ z. known z.at ≡ true) before → known r.at ≡ true → cycle_at known p before r ≡ Some c → IsCycle known p before r c
unfolding cycle_at cycle_begun_of
cycle_is_whole known p a b before r c or kb k e =
    let h = if_true (is_yellow_end known p before r) (cycle_of p (cycle_begun_in known r.at p (last_end_from known p [] before)) r) c e in
    cycle_in known p a b before r c (last_end_from known p [] before) or kb k h.0 (end_is known p [] before) h.1

-- the converse

no_end_none : (known : ℕ → Bool) (p : ℕ) (seen rows : List Row) → NoEnd known p seen rows → last_end_from known p seen rows ≡ None
no_end_none known p seen [] n = refl
no_end_none known p seen (x ∷ rows) n =
    let here : is_yellow_end known p seen x ≡ false = subst (λ (zs : List Row). is_yellow_end known p zs x ≡ false) (append-nil seen) (n [] x rows refl) in
    let more = no_end_none known p (seen ++ x ∷ []) rows (λ xs y ys e. subst (λ (zs : List Row). is_yellow_end known p zs y ≡ false) (sym (append_assoc seen (x ∷ []) xs)) (n (x ∷ xs) y ys (ap (λ zs. x ∷ zs) e))) in
    rw (more, here) refl

end_from_at : (known : ℕ → Bool) (p : ℕ) (seen front : List Row) (x : Row) (back : List Row) → is_yellow_end known p (seen ++ front) x ≡ true → NoEnd known p (seen ++ front ++ x ∷ []) back → last_end_from known p seen (front ++ x ∷ back) ≡ Some (x, back)
end_from_at known p seen [] x back e n =
    let here : is_yellow_end known p seen x ≡ true = subst (λ (zs : List Row). is_yellow_end known p zs x ≡ true) (append-nil seen) e in
    let more = no_end_none known p (seen ++ x ∷ []) back (subst (λ (zs : List Row). NoEnd known p (zs ++ x ∷ []) back) (append-nil seen) n) in
    rw (more, here) refl
end_from_at known p seen (z ∷ front) x back e n =
    let assoc = append_assoc seen (z ∷ []) front in
    let more = end_from_at known p (seen ++ z ∷ []) front x back (subst (λ (zs : List Row). is_yellow_end known p zs x ≡ true) (sym assoc) e) (subst (λ (zs : List Row). NoEnd known p (zs ++ x ∷ []) back) (sym assoc) n) in
    rw more refl

pub whole_is_cycle : (known : ℕ → Bool) (p a b : ℕ) (before : List Row) (r : Row) (c : Cycle) → AreOrdered a b before → All (λ z. known z.at ≡ true) before → IsCycle known p before r c → cycle_at known p before r ≡ Some c
unfolding cycle_at cycle_begun_of
whole_is_cycle known p a b before r c or kb w =
    let ye = is_yellow_at known p a b before r or w.second in
    let or' = subst (λ (zs : List Row). AreOrdered a b zs) w.joined or in
    let first = is_yellow_at known p a b w.to_from w.from (front_ordered a b w.to_from w.from w.between or') w.first in
    let none : NoEnd known p (w.to_from ++ w.from ∷ []) w.between = λ xs x ys s.
    false_from_ne_true (is_yellow_end known p ((w.to_from ++ w.from ∷ []) ++ xs) x)
    (λ t. w.none xs x ys s (yellow_is known p (w.to_from ++ w.from ∷ xs) x
    (member_known known before (w.to_from ++ w.from ∷ xs) x ys (w.joined ∙ ap (λ zs. w.to_from ++ w.from ∷ zs) s ∙ sym (append_assoc w.to_from (w.from ∷ xs) (x ∷ ys))) kb)
    (subst (λ (zs : List Row). is_yellow_end known p zs x ≡ true) (append_assoc w.to_from (w.from ∷ []) xs) t))) in
    let ef : last_end_from known p [] before ≡ Some (w.from, w.between) = ap (λ zs. last_end_from known p [] zs) w.joined ∙ end_from_at known p [] w.to_from w.from w.between first none in
    rw (ye, ef, all_known_at known w.from.at r.at w.all_known) (ap (λ v. Some v) (sym w.c_is))
