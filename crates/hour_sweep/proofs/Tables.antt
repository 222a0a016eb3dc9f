-- Tables of parts.
use Rattle.std.proofs.Common.{◌≡◌, ◌≢◌, ℕ, zero, suc, ◌+◌, ◌<◌, Bool, true, false, cond, List, Option, Some, None, ◌++◌, map, get_or, set, refl, ap, ap₂, sym, ◌∙◌, arith, inl, inr}
use Rattle.std.specs.Prelude.{option_map, option_to_list}
use Rattle.std.specs.List.{range_with_len}
use Rattle.std.proofs.lemmas.List.{get_or-set_same, get_or-set_other, get_or_past, length-set, set-get_or, append-nil}
use Rattle.std.proofs.lemmas.List.FromFn.{fill_by_all, length-map-range_with_len, get_or-map-range_with_len}
use Rattle.std.proofs.lemmas.Bool.{cases_eq, cases_lt}
use Rattle.sig_base.specs.declared.values.Row.{Row}
use Rattle.hour_sweep.specs.Numbers.{PassesOver, Tracking, numbered, table, tracking_after, tracking_row}

map_same : {A : Type 0} (f g : ℕ → A) (a n : ℕ) → ((p : ℕ) → f p ≡ g p) → map f (range_with_len a n) ≡ map g (range_with_len a n)
map_same f g a zero h = refl
map_same f g a (suc n) h = rw (h a, map_same f g (a + 1) n h) refl

numbered_if : {A : Type 0} (v : Bool) (x y : A) → (v ≡ true → x ≡ y) → cond v (Some x) None ≡ cond v (Some y) None
numbered_if true x y h = ap (λ z. Some z) (h refl)
numbered_if false x y h = refl

-- equal parts make equal tables
pub table_same : {A : Type 0} (has : ℕ → Bool) (n : ℕ) (f g : ℕ → A) → ((p : ℕ) → has p ≡ true → f p ≡ g p) → table has n f ≡ table has n g
table_same has n f g h = map_same (numbered has f) (numbered has g) 0 n (λ p. numbered_if (has p) (f p) (g p) (h p))

numbered_map : {A B : Type 0} (v : Bool) (f : A → B) (x : A) → option_map f (cond v (Some x) None) ≡ cond v (Some (f x)) None
numbered_map true f x = refl
numbered_map false f x = refl

map_all : {A B : Type 0} (f : A → B) (has : ℕ → Bool) (g : ℕ → A) (a n : ℕ) → map (option_map f) (map (numbered has g) (range_with_len a n)) ≡ map (numbered has (λ p. f (g p))) (range_with_len a n)
map_all f has g a zero = refl
map_all f has g a (suc n) = rw (numbered_map (has a) f (g a), map_all f has g (a + 1) n) refl

pub table_map : {A : Type 0} (f : A → A) (has : ℕ → Bool) (n : ℕ) (g : ℕ → A) → map (option_map f) (table has n g) ≡ table has n (λ p. f (g p))
table_map f has n g = map_all f has g 0 n

-- what stands at a place
pub table_at : {A : Type 0} (has : ℕ → Bool) (n p : ℕ) (f : ℕ → A) → has p ≡ true → p < n → get_or (table has n f) p None ≡ Some (f p)
table_at has n p f h lt = get_or-map-range_with_len (numbered has f) 0 n p p None lt (omega arith) ∙ ap (λ v. cond v (Some (f p)) None) h

pub table_none : {A : Type 0} (has : ℕ → Bool) (n p : ℕ) (f : ℕ → A) → has p ≡ false → get_or (table has n f) p None ≡ None
table_none has n p f h =
    elim (cases_lt p n) [
      | inl lt ↦ get_or-map-range_with_len (numbered has f) 0 n p p None lt (omega arith) ∙ ap (λ v. cond v (Some (f p)) None) h
      | inr le ↦ get_or_past (table has n f) p None (let len = length-map-range_with_len (numbered has f) 0 n in omega arith)
    ]

-- one part is another
pub table_set : {A : Type 0} (has : ℕ → Bool) (n p : ℕ) (f g : ℕ → A) (y : A) → has p ≡ true → p < n → y ≡ g p → ((q : ℕ) → q ≢ p → f q ≡ g q) → set (table has n f) p (Some y) ≡ table has n g
table_set has n p f g y h lt e same =
    let len = length-map-range_with_len (numbered has f) 0 n in
    fill_by_all (numbered has g) (set (table has n f) p (Some y)) n None (length-set (table has n f) p (Some y) ∙ len)
    (λ k kn. elim (cases_eq k p) [
      | inl at ↦ rw at (get_or-set_same (table has n f) p (Some y) None (omega arith) ∙ ap (λ z. Some z) e ∙ ap (λ v. cond v (Some (g p)) None) (sym h))
      | inr ne ↦ get_or-set_other (table has n f) p k (Some y) None ne ∙ get_or-map-range_with_len (numbered has f) 0 n k k None kn (omega arith) ∙ ap (λ z. cond (has k) (Some z) None) (same k ne)
    ])

-- a row that is passed over changes nothing of what is kept

abbrev tracking : {A O : Type 0} → List (Option A) → List O → Tracking A O
tracking ps os = record { parts = ps; outs = os }

row_same : {A O : Type 0} (step : Row → A → A) (out_by : Row → A → Option O) (s : Tracking A O) (x : Row) (o : Option A) → get_or s.parts x.param None ≡ o → ((a : A) → (step x a ≡ a) × (out_by x a ≡ None)) → tracking_row step out_by s x o ≡ s
row_same step out_by s x None e h = refl
row_same step out_by s x (Some a) e h =
    let (p, q) = h a in
    let same = ap (λ y. set s.parts x.param y) (ap (λ b. Some b) p ∙ sym e) ∙ set-get_or s.parts x.param None in
    let none = ap (λ y. s.outs ++ option_to_list y) q ∙ append-nil s.outs in
    ap₂ tracking same none

pub passed_over : {A O : Type 0} (wants : ℕ → Bool) (step : Row → A → A) (out_by : Row → A → Option O) (s : Tracking A O) (x : Row) → PassesOver wants step out_by → wants x.code ≡ false → tracking_after step out_by s x ≡ s
passed_over wants step out_by s x h e = row_same step out_by s x (get_or s.parts x.param None) refl (λ a. h x a e)
