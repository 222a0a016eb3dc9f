-- Arrivals at their arrival tenths.
use Rattle.std.proofs.Common.{◌≡◌, ℕ, ◌+◌, ◌-◌, ◌^◌, ◌<◌, ◌≤◌, Bool, true, false, ◌&&◌, ◌||◌, cond, eqb, leb, ltb, List, [], ◌∷◌, ◌++◌, map, refl, ap, sym, subst, ◌∙◌, append_assoc, arith, inl, inr}
use Rattle.std.specs.Prelude.{All, min}
use Rattle.std.specs.List.{filter}
use Rattle.std.proofs.lemmas.Bool.{cases_Bool, and_parts, eqb-true, leb-true, leb-false, le-leb, ltb-true, ltb-false, le-ltb, lt-leb}
use Rattle.std.proofs.lemmas.List.{append-nil, map-append}
use Rattle.std.proofs.lemmas.List.Elements.{All-nil, All-cons, All-head, All-tail, filter-append}
use Rattle.sig_base.specs.declared.values.Row.{Row}
use Rattle.hour_sweep.specs.Hours.{AreOrdered}
use Rattle.hour_sweep.proofs.Orders.{ordered_from}
use Rattle.arrival_measures.specs.Arrivals.{is_on, ons_of}
use Rattle.arrival_measures.specs.Own.{turns_green}
use Rattle.arrival_measures.specs.Faults.{arrivals_from, is_arrival, passing_from}
use Rattle.arrival_measures.specs.Travel.{arrivals_at, from_tenth, shifted}
use Rattle.arrival_measures.specs.Steps.{moved, row_on}

-- ---- parts of a list

pub passing-append : (test : List Row → Row → Bool) (before xs ys : List Row) → passing_from test before (xs ++ ys) ≡ passing_from test before xs ++ passing_from test (before ++ xs) ys
passing-append test before [] ys = ap (λ zs. passing_from test zs ys) (sym (append-nil before))
passing-append test before (x ∷ xs) ys =
    let more = passing-append test (before ++ x ∷ []) xs ys ∙ ap (λ zs. passing_from test (before ++ x ∷ []) xs ++ passing_from test zs ys) (append_assoc before (x ∷ []) xs) in
    elim (cases_Bool (test before x)) [ inl e ↦ rw e (ap (λ zs. x ∷ zs) more) | inr e ↦ rw e more ]

pub kept_ordered : (test : Row → Bool) (a b c : ℕ) (xs : List Row) → c ≤ a → AreOrdered a b xs → AreOrdered c b (filter test xs)
kept_ordered test a b c [] le h = omega arith
kept_ordered test a b c (x ∷ xs) le h =
    let lo = h.0 in
    let hi = h.1 in
    elim (cases_Bool (test x)) [
      | inl e ↦ rw e (omega arith, hi, kept_ordered test x.at b x.at xs (omega arith) h.2)
      | inr e ↦ rw e (kept_ordered test x.at b c xs (omega arith) h.2)
    ]

pub passing_ordered : (test : List Row → Row → Bool) (before : List Row) (a b c : ℕ) (xs : List Row) → c ≤ a → AreOrdered a b xs → AreOrdered c b (passing_from test before xs)
passing_ordered test before a b c [] le h = omega arith
passing_ordered test before a b c (x ∷ xs) le h =
    let lo = h.0 in
    let hi = h.1 in
    elim (cases_Bool (test before x)) [
      | inl e ↦ rw e (omega arith, hi, passing_ordered test (before ++ x ∷ []) x.at b x.at xs (omega arith) h.2)
      | inr e ↦ rw e (passing_ordered test (before ++ x ∷ []) x.at b c xs (omega arith) h.2)
    ]

shifted_ordered : (v a b : ℕ) (xs : List Row) → AreOrdered a b xs → AreOrdered (a + v) (b + v) (map (shifted v) xs)
shifted_ordered v a b [] h = omega arith
shifted_ordered v a b (x ∷ xs) h =
    let lo = h.0 in
    let hi = h.1 in
    (omega arith, omega arith, shifted_ordered v x.at b xs h.2)

-- the arrivals of an hour, where the first rows stand before it
abbrev pub arrivals_in : (ℕ → Bool) → ℕ → ℕ → List Row → List Row → List Row
arrivals_in known d v before rows = map (shifted v) (ons_of d (arrivals_from known before rows))

pub arrivals_more : (known : ℕ → Bool) (d v : ℕ) (before rows : List Row) → arrivals_at known d v (before ++ rows) ≡ arrivals_at known d v before ++ arrivals_in known d v before rows
unfolding arrivals_at
arrivals_more known d v before rows =
    ap (λ zs. map (shifted v) (ons_of d zs)) (passing-append (is_arrival known) [] before rows)
    ∙ ap (λ zs. map (shifted v) zs) (filter-append (is_on d) (arrivals_from known [] before) (arrivals_from known before rows))
    ∙ map-append (shifted v) (ons_of d (arrivals_from known [] before)) (ons_of d (arrivals_from known before rows))

pub in_ordered : (known : ℕ → Bool) (d v : ℕ) (before : List Row) (a b : ℕ) (rows : List Row) → AreOrdered a b rows → AreOrdered (a + v) (b + v) (arrivals_in known d v before rows)
in_ordered known d v before a b rows h = shifted_ordered v a b _ (kept_ordered (is_on d) a b a (arrivals_from known before rows) (omega arith) (passing_ordered (is_arrival known) before a b a rows (omega arith) h))

pub at_ordered : (known : ℕ → Bool) (d v a b : ℕ) (rows : List Row) → AreOrdered a b rows → AreOrdered (a + v) (b + v) (arrivals_at known d v rows)
unfolding arrivals_at
at_ordered known d v a b rows h = in_ordered known d v [] a b rows h

-- ---- each is one of the detector

abbrev pub AllOn : ℕ → List Row → Type 0
AllOn d xs = All (λ x. is_on d x ≡ true) xs

pub filter_on : (d : ℕ) (xs : List Row) → AllOn d (ons_of d xs)
filter_on d [] = All-nil (λ x. is_on d x ≡ true)
filter_on d (x ∷ xs) = elim (cases_Bool (is_on d x)) [ inl e ↦ rw e (All-cons (λ z. is_on d z ≡ true) x (ons_of d xs) e (filter_on d xs)) | inr e ↦ rw e (filter_on d xs) ]

shifted_on : (d v : ℕ) (xs : List Row) → AllOn d xs → AllOn d (map (shifted v) xs)
shifted_on d v [] h = All-nil (λ x. is_on d x ≡ true)
shifted_on d v (x ∷ xs) h = All-cons (λ z. is_on d z ≡ true) (shifted v x) (map (shifted v) xs) (All-head (λ z. is_on d z ≡ true) x xs h) (shifted_on d v xs (All-tail (λ z. is_on d z ≡ true) x xs h))

pub in_on : (known : ℕ → Bool) (d v : ℕ) (before rows : List Row) → AllOn d (arrivals_in known d v before rows)
in_on known d v before rows = shifted_on d v (ons_of d (arrivals_from known before rows)) (filter_on d (arrivals_from known before rows))

pub at_on : (known : ℕ → Bool) (d v : ℕ) (rows : List Row) → AllOn d (arrivals_at known d v rows)
unfolding arrivals_at
at_on known d v rows = in_on known d v [] rows

pub on_kept : (d : ℕ) (xs : List Row) → AllOn d xs → ons_of d xs ≡ xs
on_kept d [] h = refl
on_kept d (x ∷ xs) h = rw (All-head (λ z. is_on d z ≡ true) x xs h) (ap (λ zs. x ∷ zs) (on_kept d xs (All-tail (λ z. is_on d z ≡ true) x xs h)))

-- a row isn't both of a detector that goes on and of a phase whose green begins or ends
pub on_no_turn : (p d : ℕ) (x : Row) → is_on d x ≡ true → turns_green p x ≡ false
on_no_turn p d x e =
    let code : x.code ≡ 82 = eqb-true x.code 82 (and_parts (eqb x.code 82) (eqb x.param d) e).0 in
    no_turn (eqb x.param p) x.code code
  where
    no_turn : (v : Bool) (n : ℕ) → n ≡ 82 → ((v && eqb n 1) || (v && (eqb n 7 || eqb n 8))) ≡ false
    no_turn true n e = rw e refl
    no_turn false n e = refl

pub no_turns : (p d : ℕ) (xs : List Row) → AllOn d xs → filter (turns_green p) xs ≡ []
no_turns p d [] h = refl
no_turns p d (x ∷ xs) h = rw (on_no_turn p d x (All-head (λ z. is_on d z ≡ true) x xs h)) (no_turns p d xs (All-tail (λ z. is_on d z ≡ true) x xs h))

turn_off : (p d : ℕ) (x : Row) → turns_green p x ≡ true → is_on d x ≡ false
turn_off p d x e = elim (cases_Bool (is_on d x)) [
  | inl o ↦ absurd (let f = on_no_turn p d x o in let bad : true ≡ false = sym e ∙ f in cc)
  | inr f ↦ f
]

pub no_ons : (p d : ℕ) (xs : List Row) → ons_of d (filter (turns_green p) xs) ≡ []
no_ons p d [] = refl
no_ons p d (x ∷ xs) = elim (cases_Bool (turns_green p x)) [ inl e ↦ rw (e, turn_off p d x e) (no_ons p d xs) | inr e ↦ rw e (no_ons p d xs) ]

-- ---- from a tenth on

pub late_all : (t b : ℕ) (xs : List Row) → AreOrdered t b xs → from_tenth t xs ≡ xs
late_all t b [] h = refl
late_all t b (x ∷ xs) h =
    let lo = h.0 in
    rw (le-leb t x.at lo) (ap (λ zs. x ∷ zs) (late_all t b xs (ordered_from t x.at b xs lo h.2)))

early_none : (t b : ℕ) (xs : List Row) → AreOrdered t b xs → filter (λ x. ltb x.at t) xs ≡ []
early_none t b [] h = refl
early_none t b (x ∷ xs) h =
    let lo = h.0 in
    rw (le-ltb x.at t lo) (early_none t b xs (ordered_from t x.at b xs lo h.2))

-- rows in order are those before a tenth and those from it on
pub early_late : (t a b : ℕ) (xs : List Row) → AreOrdered a b xs → filter (λ x. ltb x.at t) xs ++ from_tenth t xs ≡ xs
early_late t a b [] h = refl
early_late t a b (x ∷ xs) h = elim (cases_Bool (ltb x.at t)) [
  | inl e ↦
      let lt = ltb-true x.at t e in
      rw (e, lt-leb t x.at lt) (ap (λ zs. x ∷ zs) (early_late t x.at b xs h.2))
  | inr e ↦
      let le = ltb-false x.at t e in
      let or = ordered_from t x.at b xs le h.2 in
      rw (e, le-leb t x.at le, early_none t b xs or) (ap (λ zs. x ∷ zs) (late_all t b xs or))
]

pub wider : (a b c : ℕ) (xs : List Row) → b ≤ c → AreOrdered a b xs → AreOrdered a c xs
wider a b c [] le h = omega arith
wider a b c (x ∷ xs) le h = let lo = h.0 in let hi = h.1 in (lo, omega arith, wider x.at b c xs le h.2)

pub late_ordered : (t a b : ℕ) (xs : List Row) → t ≤ b → AreOrdered a b xs → AreOrdered t b (from_tenth t xs)
late_ordered t a b [] le h = le
late_ordered t a b (x ∷ xs) le h = elim (cases_Bool (leb t x.at)) [
  | inl e ↦
      let lo = leb-true t x.at e in
      let hi = h.1 in
      let same : from_tenth t (x ∷ xs) ≡ x ∷ xs = late_all t b (x ∷ xs) (lo, hi, h.2) in
      subst (λ (zs : List Row). AreOrdered t b zs) (sym same) (lo, hi, h.2)
  | inr e ↦ rw e (late_ordered t x.at b xs le h.2)
]

-- those from a tenth on among those from an earlier one on
pub late_late : (s t : ℕ) (xs : List Row) → s ≤ t → from_tenth t (from_tenth s xs) ≡ from_tenth t xs
late_late s t [] le = refl
late_late s t (x ∷ xs) le = elim (cases_Bool (leb s x.at)) [
  | inl e ↦ rw e (ap (λ zs. cond (leb t x.at) (x ∷ zs) zs) (late_late s t xs le))
  | inr e ↦
      let lt = leb-false s x.at e in
      rw (e, lt-leb t x.at (omega arith)) (late_late s t xs le)
]

-- ---- as the code makes them

row_is : (d : ℕ) (x : Row) → is_on d x ≡ true → row_on d x.at ≡ x
row_is d x e =
    let both = and_parts (eqb x.code 82) (eqb x.param d) e in
    let code : x.code ≡ 82 = eqb-true x.code 82 both.0 in
    let param : x.param ≡ d = eqb-true x.param d both.1 in
    ap (λ n. let r : Row = record { at = x.at; code = n; param = d } in r) (sym code) ∙ ap (λ n. let r : Row = record { at = x.at; code = x.code; param = n } in r) (sym param)

pub rows_are : (d : ℕ) (xs : List Row) → AllOn d xs → map (row_on d) (map (λ (x : Row). x.at) xs) ≡ xs
rows_are d [] h = refl
rows_are d (x ∷ xs) h =
    ap (λ z. z ∷ map (row_on d) (map (λ (x : Row). x.at) xs)) (row_is d x (All-head (λ z. is_on d z ≡ true) x xs h))
    ∙ ap (λ zs. x ∷ zs) (rows_are d xs (All-tail (λ z. is_on d z ≡ true) x xs h))

moved_is : (v : ℕ) (x : Row) → x.at + v < 2 ^ 32 → moved v x ≡ shifted v x
moved_is v x lt =
    let at : min (x.at + v) (2 ^ 32 - 1) ≡ x.at + v = omega arith in
    ap (λ n. let r : Row = record { at = n; code = x.code; param = x.param } in r) at

pub moved_are : (v a b : ℕ) (xs : List Row) → AreOrdered a b xs → b + v < 2 ^ 32 → map (moved v) xs ≡ map (shifted v) xs
moved_are v a b [] h lt = refl
moved_are v a b (x ∷ xs) h lt =
    let hi = h.1 in
    ap (λ z. z ∷ map (moved v) xs) (moved_is v x (omega arith))
    ∙ ap (λ zs. shifted v x ∷ zs) (moved_are v x.at b xs h.2 lt)
