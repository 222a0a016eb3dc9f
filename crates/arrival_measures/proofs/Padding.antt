-- Tables of flags that go only as far as there are detectors of approaches.
use Rattle.std.proofs.Common.{◌≡◌, ℕ, zero, suc, ◌+◌, ◌-◌, ◌<◌, ◌≤◌, Bool, true, false, cond, List, [], ◌∷◌, ◌++◌, Option, Some, None, append_assoc, get_or, length, length-append, map, take, refl, ap, sym, ◌∙◌, arith, inl, inr}
use Rattle.std.proofs.Math.ListN.{replicate}
use Rattle.std.proofs.lemmas.Bool.{cases_Bool, cases_lt}
use Rattle.std.specs.List.{range_with_len}
use Rattle.std.proofs.lemmas.List.{append-nil, get_or_past, length-replicate, replicate-append-replicate, take_all}
use Rattle.std.proofs.lemmas.List.FromFn.{fill_by_all, get_or-map-range_with_len, length-map-range_with_len, map-range_with_len_more}
use Rattle.hour_sweep.specs.Numbers.{numbered, table}
use Rattle.hour_sweep.proofs.Tables.{table_at}
use Rattle.arrival_measures.specs.declared.faults.Flag.{Flag}
use Rattle.arrival_measures.specs.Crossing.{all_flags}

get_or-none : {A : Type 0} (d : A) (n i : ℕ) → get_or (replicate n d) i d ≡ d
get_or-none d zero i = refl
get_or-none d (suc n) zero = refl
get_or-none d (suc n) (suc i) = get_or-none d n i

-- what stands where there is nothing may stand there as well
pub get_or-padded : {A : Type 0} (d : A) (xs : List A) (n i : ℕ) → get_or (xs ++ replicate n d) i d ≡ get_or xs i d
get_or-padded d [] n i = get_or-none d n i
get_or-padded d (x ∷ xs) n zero = refl
get_or-padded d (x ∷ xs) n (suc i) = get_or-padded d xs n i

abbrev no_one : Option Flag
no_one = None

pub told_at : (flags : List (Option Flag)) (i : ℕ) → get_or (all_flags flags) i no_one ≡ get_or flags i no_one
told_at flags i = get_or-padded no_one flags (129 - length flags) i

pub told_size : (flags : List (Option Flag)) → length (all_flags flags) ≡ length flags + (129 - length flags)
told_size flags = length-append flags (replicate (129 - length flags) no_one) ∙ ap (λ n. length flags + n) (length-replicate (129 - length flags) no_one)

-- ---- two tables

pub same_told : (xs ys : List (Option Flag)) → length xs + (129 - length xs) ≡ length ys + (129 - length ys) → ((i : ℕ) → get_or xs i no_one ≡ get_or ys i no_one) → all_flags xs ≡ all_flags ys
same_told xs ys size same =
    let f : ℕ → Option Flag = λ i. get_or ys i no_one in
    let n = length ys + (129 - length ys) in
    fill_by_all f (all_flags xs) n no_one (told_size xs ∙ size) (λ k lt. told_at xs k ∙ same k)
    ∙ sym (fill_by_all f (all_flags ys) n no_one (told_size ys) (λ k lt. told_at ys k))

pub places_told : (xs ys : List (Option Flag)) → all_flags xs ≡ all_flags ys → (i : ℕ) → get_or xs i no_one ≡ get_or ys i no_one
places_told xs ys e i = sym (told_at xs i) ∙ ap (λ zs. get_or zs i no_one) e ∙ told_at ys i

-- ---- the whole table of 129 numbers, and one that goes as far as there are some

module _ (has : ℕ → Bool) (f : ℕ → Flag) where
  module _ (room : (p : ℕ) → has p ≡ true → p < 129) (flags : List (Option Flag)) (all : all_flags flags ≡ table has 129 f) where
    pub short_few : length flags ≤ 129
    short_few =
        let a = told_size flags in
        let b = ap (λ zs. length zs) all in
        let n = length-map-range_with_len (numbered has f) 0 129 in
        omega arith

    pub short_table : flags ≡ table has (length flags) f
    short_table =
        let few = short_few in
        fill_by_all (numbered has f) flags (length flags) no_one refl (λ k lt. sym (told_at flags k) ∙ ap (λ zs. get_or zs k no_one) all ∙ get_or-map-range_with_len (numbered has f) 0 129 k k no_one (omega arith) (omega arith))

    pub short_room : (p : ℕ) → has p ≡ true → p < length flags
    short_room p h = elim (cases_lt p (length flags)) [
      | inl lt ↦ lt
      | inr le ↦
          let w : no_one ≡ Some (f p) = sym (get_or_past flags p no_one le) ∙ sym (told_at flags p) ∙ ap (λ zs. get_or zs p no_one) all ∙ table_at has 129 p f h (room p h) in
          absurd cc
    ]

  pub whole_table : (n : ℕ) → n ≤ 129 → ((p : ℕ) → has p ≡ true → p < n) → all_flags (table has n f) ≡ table has 129 f
  whole_table n le room =
      let part = table has n f in
      let size = length-map-range_with_len (numbered has f) 0 n in
      let told = told_size part in
      fill_by_all (numbered has f) (all_flags part) 129 no_one (omega arith)
      (λ k lt. told_at part k ∙ elim (cases_lt k n) [
        | inl low ↦ get_or-map-range_with_len (numbered has f) 0 n k k no_one low (omega arith)
        | inr high ↦
            let none : has k ≡ false = elim (cases_Bool (has k)) [ inl h ↦ absurd (let low = room k h in omega arith) | inr e ↦ e ] in
            get_or_past part k no_one (omega arith) ∙ sym (ap (λ v. cond v (Some (f k)) None) none)
      ])

-- ---- number by number, from the first

module _ (f : ℕ → Option Flag) (n : ℕ) (flags : List (Option Flag)) (few : length flags ≤ n) (told : flags ++ replicate (n - length flags) no_one ≡ map f (range_with_len 0 n)) where
  -- the next number has no flag
  pub none_next : f n ≡ no_one → flags ++ replicate (n + 1 - length flags) no_one ≡ map f (range_with_len 0 (n + 1))
  none_next e =
      let more : n + 1 - length flags ≡ (n - length flags) + 1 = omega arith in
      let rest = replicate (n - length flags) no_one in
      ap (λ k. flags ++ replicate k no_one) more
      ∙ ap (λ zs. flags ++ zs) (sym (replicate-append-replicate (n - length flags) 1 no_one))
      ∙ sym (append_assoc flags rest (no_one ∷ []))
      ∙ ap (λ zs. zs ++ no_one ∷ []) told
      ∙ ap (λ z. map f (range_with_len 0 n) ++ z ∷ []) (sym e)
      ∙ sym (map-range_with_len_more f 0 n n (omega arith))

  module _ (new : List (Option Flag)) (v : Option Flag) (put : new ≡ (take n flags ++ replicate (n - length flags) no_one) ++ v ∷ []) (e : v ≡ f n) where
    next_all : new ≡ map f (range_with_len 0 (n + 1))
    next_all =
        put
        ∙ ap (λ zs. (zs ++ replicate (n - length flags) no_one) ++ v ∷ []) (take_all n flags few)
        ∙ ap (λ zs. zs ++ v ∷ []) told
        ∙ ap (λ z. map f (range_with_len 0 n) ++ z ∷ []) e
        ∙ sym (map-range_with_len_more f 0 n n (omega arith))

    pub next_size : length new ≡ n + 1
    next_size = ap (λ zs. length zs) next_all ∙ length-map-range_with_len f 0 (n + 1)

    -- the next number has one
    pub one_next : new ++ replicate (n + 1 - length new) no_one ≡ map f (range_with_len 0 (n + 1))
    one_next =
        let size = next_size in
        let nothing : n + 1 - length new ≡ 0 = omega arith in
        ap (λ k. new ++ replicate k no_one) nothing ∙ append-nil new ∙ next_all
