-- What rows give, hour by hour.
use Rattle.std.proofs.Common.{◌≡◌, ℕ, ◌<◌, ◌≤◌, Bool, true, false, ◌&&◌, cond, List, [], ◌∷◌, ◌++◌, Option, Some, None, refl, ap, ap₂, sym, ◌∙◌, append_assoc, arith, filter}
use Rattle.std.specs.Prelude.{All, nat_le, nat_lt, filter_map, option_and_then}
use Rattle.std.specs.List.{cons_option}
use Rattle.std.proofs.lemmas.List.{append-nil}
use Rattle.std.proofs.lemmas.List.Elements.{All-nil, All-cons, All-head, All-tail, All-push, All-weaker, filter-append}
use Rattle.std.proofs.lemmas.Bool.{le-leb, lt-leb, lt-ltb, le-ltb}
use Rattle.sig_base.specs.declared.values.Row.{Row}
use Rattle.sig_base.proofs.Common.{and_false}
use Rattle.hour_sweep.specs.Hours.{AreOrdered}
use Rattle.hour_sweep.specs.Numbers.{given, outs_from}
use Rattle.hour_sweep.proofs.Orders.{below_end, end_of, ordered-append}

cons_append : {O : Type 0} (o : Option O) (xs ys : List O) → cons_option o xs ++ ys ≡ cons_option o (xs ++ ys)
cons_append None xs ys = refl
cons_append (Some x) xs ys = refl

-- a part of what is given is given by itself

part_cons : {O P : Type 0} (f : O → Option P) (o : Option O) (xs : List O) → filter_map f (cons_option o xs) ≡ cons_option (option_and_then f o) (filter_map f xs)
part_cons f None xs = refl
part_cons f (Some x) xs = refl

part_given : {O P : Type 0} (f : O → Option P) (v : Bool) (o : Option O) → option_and_then f (cond v o None) ≡ cond v (option_and_then f o) None
part_given f true o = refl
part_given f false o = refl

pub outs_from-part : {O P : Type 0} (f : O → Option P) (out_at : ℕ → List Row → Row → List Row → Option O) (part_at : ℕ → List Row → Row → List Row → Option P) (has : ℕ → Bool) (before rows : List Row) → ((p : ℕ) (before : List Row) (x : Row) (rest : List Row) → option_and_then f (out_at p before x rest) ≡ part_at p before x rest) → filter_map f (outs_from out_at has before rows) ≡ outs_from part_at has before rows
outs_from-part f out_at part_at has before [] h = refl
outs_from-part f out_at part_at has before (x ∷ xs) h =
    part_cons f (given out_at has before x xs) (outs_from out_at has (before ++ x ∷ []) xs)
    ∙ ap₂ (λ o zs. cons_option o zs) (part_given f (has x.param) (out_at x.param before x xs) ∙ ap (λ o. cond (has x.param) o None) (h x.param before x xs)) (outs_from-part f out_at part_at has (before ++ x ∷ []) xs h)

-- rows at later tenths change nothing of what is given
abbrev pub IsCutOff : {O : Type 0} → (ℕ → List Row → Row → List Row → Option O) → Type 0
IsCutOff out_at = (before : List Row) (x : Row) (rs ys : List Row) (t b : ℕ) → All (λ z. z.at < t) before → x.at < t → AreOrdered t b ys → out_at x.param before x (rs ++ ys) ≡ out_at x.param before x rs

pub outs_from-append : {O : Type 0} (out_at : ℕ → List Row → Row → List Row → Option O) (has : ℕ → Bool) (u b : ℕ) (before xs ys : List Row) → IsCutOff out_at → All (λ z. z.at < u) before → All (λ z. z.at < u) xs → AreOrdered u b ys → outs_from out_at has before (xs ++ ys) ≡ outs_from out_at has before xs ++ outs_from out_at has (before ++ xs) ys
outs_from-append out_at has u b before [] ys cut low lo h = ap (λ zs. outs_from out_at has zs ys) (sym (append-nil before))
outs_from-append out_at has u b before (x ∷ xs) ys cut low lo h =
    let lt = All-head (λ (z : Row). z.at < u) x xs lo in
    let more = All-push (λ (z : Row). z.at < u) before x low lt in
    ap₂ (λ o zs. cons_option (cond (has x.param) o None) zs) (cut before x xs ys u b low lt h)
    (outs_from-append out_at has u b (before ++ x ∷ []) xs ys cut more (All-tail (λ z. z.at < u) x xs lo) h ∙ ap (λ zs. outs_from out_at has (before ++ x ∷ []) xs ++ outs_from out_at has zs ys) (append_assoc before (x ∷ []) xs))
    ∙ sym (cons_append (given out_at has before x xs) (outs_from out_at has (before ++ x ∷ []) xs) (outs_from out_at has (before ++ x ∷ xs) ys))

-- what an hour's rows give has its tenth in the hour

abbrev pub IsGivenAt : {O : Type 0} → (O → ℕ) → ℕ → Option O → Type 0
IsGivenAt tenth t None = Unit {0}
IsGivenAt tenth t (Some o) = tenth o ≡ t

-- what a row gives has its tenth
abbrev pub HasTenth : {O : Type 0} → (O → ℕ) → (ℕ → List Row → Row → List Row → Option O) → Type 0
HasTenth tenth out_at = (p : ℕ) (before : List Row) (x : Row) (rest : List Row) → IsGivenAt tenth x.at (out_at p before x rest)

-- it has its tenth from a up to b
abbrev pub is_between : {O : Type 0} → (O → ℕ) → ℕ → ℕ → O → Bool
is_between tenth a b o = nat_le a (tenth o) && nat_lt (tenth o) b

module _ {O : Type 0} (tenth : O → ℕ) where
  abbrev pub AreBetween : ℕ → ℕ → List O → Type 0
  AreBetween a b os = All (λ o. (a ≤ tenth o) × (tenth o < b)) os

  given_if : (t : ℕ) (v : Bool) (o : Option O) → IsGivenAt tenth t o → IsGivenAt tenth t (cond v o None)
  given_if t true o h = h
  given_if t false o h = tt

  cons_between : (a b t : ℕ) (o : Option O) (os : List O) → IsGivenAt tenth t o → a ≤ t → t < b → AreBetween a b os → AreBetween a b (cons_option o os)
  cons_between a b t None os h le lt all = all
  cons_between a b t (Some o) os h le lt all = All-cons (λ o. (a ≤ tenth o) × (tenth o < b)) o os (omega arith, omega arith) all

  pub given_between : (out_at : ℕ → List Row → Row → List Row → Option O) (has : ℕ → Bool) (a b : ℕ) (before xs : List Row) → HasTenth tenth out_at → AreOrdered a b xs → AreBetween a b (outs_from out_at has before xs)
  given_between out_at has a b before [] ht h = All-nil (λ o. (a ≤ tenth o) × (tenth o < b))
  given_between out_at has a b before (x ∷ xs) ht h =
      let le = h.0 in
      cons_between a b x.at (given out_at has before x xs) (outs_from out_at has (before ++ x ∷ []) xs) (given_if x.at (has x.param) (out_at x.param before x xs) (ht x.param before x xs)) le h.1
      (All-weaker (λ (o : O). (x.at ≤ tenth o) × (tenth o < b)) (λ o. (a ≤ tenth o) × (tenth o < b)) (λ o w. let l = w.0 in (omega arith, w.1)) (outs_from out_at has (before ++ x ∷ []) xs) (given_between out_at has x.at b (before ++ x ∷ []) xs ht h.2))

  all_in : (a b : ℕ) (os : List O) → AreBetween a b os → filter (is_between tenth a b) os ≡ os
  all_in a b [] h = refl
  all_in a b (o ∷ os) h =
      let w = All-head (λ (o : O). (a ≤ tenth o) × (tenth o < b)) o os h in
      rw (le-leb a (tenth o) w.0, lt-ltb (tenth o) b w.1, all_in a b os (All-tail (λ o. (a ≤ tenth o) × (tenth o < b)) o os h)) refl

  none_before : (a b c : ℕ) (os : List O) → AreBetween c a os → filter (is_between tenth a b) os ≡ []
  none_before a b c [] h = refl
  none_before a b c (o ∷ os) h =
      let w = All-head (λ (o : O). (c ≤ tenth o) × (tenth o < a)) o os h in
      rw (lt-leb a (tenth o) w.1) (none_before a b c os (All-tail (λ o. (c ≤ tenth o) × (tenth o < a)) o os h))

  none_after : (a b c : ℕ) (os : List O) → AreBetween b c os → filter (is_between tenth a b) os ≡ []
  none_after a b c [] h = refl
  none_after a b c (o ∷ os) h =
      let w = All-head (λ (o : O). (b ≤ tenth o) × (tenth o < c)) o os h in
      rw (le-ltb (tenth o) b w.0, and_false (nat_le a (tenth o))) (none_after a b c os (All-tail (λ o. (b ≤ tenth o) × (tenth o < c)) o os h))

  -- of all that is given, the rows from tenth a up to b give what has its tenth there
  pub hour_part : (out_at : ℕ → List Row → Row → List Row → Option O) (has : ℕ → Bool) (a b c : ℕ) (before xs ys : List Row) → IsCutOff out_at → HasTenth tenth out_at → AreOrdered 0 a before → AreOrdered a b xs → AreOrdered b c ys → filter (is_between tenth a b) (outs_from out_at has [] (before ++ (xs ++ ys))) ≡ outs_from out_at has before xs
  hour_part out_at has a b c before xs ys cut ht ob ox oy =
      let rest = ordered-append a b c xs ys ox oy in
      let low = below_end 0 a before ob in
      let below = below_end a b xs ox in
      let lower = All-weaker (λ (z : Row). z.at < a) (λ z. z.at < b) (λ z l. omega (arith, end_of a b xs ox)) before low in
      let now = outs_from out_at has before xs in
      let then = outs_from out_at has (before ++ xs) ys in
      ap (λ zs. filter (is_between tenth a b) zs) (outs_from-append out_at has a c [] before (xs ++ ys) cut (All-nil (λ z. z.at < a)) low rest
      ∙ ap (λ zs. outs_from out_at has [] before ++ zs) (outs_from-append out_at has b c before xs ys cut lower below oy))
      ∙ filter-append (is_between tenth a b) (outs_from out_at has [] before) (now ++ then)
      ∙ ap₂ (λ us vs. us ++ vs) (none_before a b 0 (outs_from out_at has [] before) (given_between out_at has 0 a [] before ht ob))
      (filter-append (is_between tenth a b) now then
      ∙ ap₂ (λ us vs. us ++ vs) (all_in a b now (given_between out_at has a b before xs ht ox)) (none_after a b c then (given_between out_at has b c (before ++ xs) ys ht oy))
      ∙ append-nil now)
