-- Sets of phases as masks, and the parents of an overlap as the code gathers them.
use Rattle.std.proofs.Common.{◌≡◌, ◌≢◌, ◌⊎◌, ◌↔◌, inl, inr, ℕ, suc, zero, ◌+◌, ◌-◌, ◌^◌, ◌<◌, ◌≤◌, max, Bool, true, false, ◌&&◌, ◌||◌, ◌==◌, cond, nat_le, IsTrue, List, [], ◌∷◌, ◌++◌, length, get_or, drop, filter, fold, bit_or, Option, Some, None, option_map, refl, ap, sym, ◌∙◌, arith}
use Rattle.std.specs.Int.{bit_at}
use Rattle.std.specs.List.{range_with_len}
use Rattle.std.proofs.lemmas.Bool.{cases_Bool}
use Rattle.std.proofs.lemmas.Bool.Decides.{eqb_tells}
use Rattle.std.proofs.lemmas.List.{length_push, drop_all}
use Rattle.std.proofs.lemmas.Nat.Bits.{bit_at_or, bit_at-lt, bit_at-zero, bit_at-pow_same, bit_at-pow_other, same_from_bits}
use Rattle.colour_machine.specs.Mask.{Has}
use Rattle.sig_base.specs.declared.values.PhaseItem.{PhaseItem}
use Rattle.sig_base.specs.Numbers.{has_number}
use Rattle.toml.specs.declared.value.Value.{Value}
use Rattle.toml.specs.Data.{Data}
use Rattle.toml.specs.View.{view, items_view}
use Rattle.toml.proofs.Views.{items_view-drop}
use Rattle.ring_config.specs.Values.{configured, next_phase, phases_from, few_parents, passing, mask_of, phases_in}
use Rattle.ring_config.specs.Parents.{ArePositive, IsMaskOf, Adds}

-- ---- bits

pub no_bits : (mask : ℕ) → ((c : ℕ) → Has mask c → ⊥) → mask ≡ 0
no_bits mask h =
    same_from_bits mask 0 (λ i.
    let z : bit_at 0 i ≡ 0 = bit_at-zero i in
    let lt : bit_at mask i < 2 = bit_at-lt mask i in
    let no : bit_at mask i ≡ 1 → ⊥ = h i in
    omega arith)

by_one : (n o p : ℕ) → n ≡ 1 → p ≡ 1 → o < 2 → n ≡ max o p
by_one n o p e f lt = omega arith

by_zero : (n o p : ℕ) → n < 2 → o < 2 → p ≡ 0 → (n ≡ 1 → o ≡ 1) → (o ≡ 1 → n ≡ 1) → n ≡ max o p
by_zero n o p lt lu z from to =
    elim (eqb_tells n 1) [
      | inl t ↦ let one : n ≡ 1 = t.1 in let old : o ≡ 1 = from t.1 in omega arith
      | inr t ↦ let n_not : n ≢ 1 = t.1 in let o_not : o ≢ 1 = λ q. t.1 (to q) in omega arith
    ]

more_at : (old new c i : ℕ) → (Has new i ↔ (Has old i ⊎ (i ≡ c))) → bit_at new i ≡ max (bit_at old i) (bit_at (2 ^ c) i)
more_at old new c i h =
    elim (eqb_tells i c) [
      | inl t ↦
          let p : bit_at (2 ^ c) i ≡ 1 = rw t.1 (bit_at-pow_same c) in
          by_one (bit_at new i) (bit_at old i) (bit_at (2 ^ c) i) (h.1 (inr t.1)) p (bit_at-lt old i)
      | inr t ↦
          by_zero (bit_at new i) (bit_at old i) (bit_at (2 ^ c) i) (bit_at-lt new i) (bit_at-lt old i) (bit_at-pow_other c i t.1)
          (λ q. elim (h.0 q) [ inl a ↦ a | inr e ↦ absurd (t.1 e) ]) (λ q. h.1 (inl q))
    ]

pub one_bit_more : (old new c : ℕ) → ((d : ℕ) → Has new d ↔ (Has old d ⊎ (d ≡ c))) → new ≡ bit_or old (2 ^ c)
one_bit_more old new c h = same_from_bits new (bit_or old (2 ^ c)) (λ i. more_at old new c i (h i) ∙ sym (bit_at_or old (2 ^ c) i))

-- ---- the phases of a mask

abbrev pub bit_of : Bool → ℕ
bit_of b = cond b 1 0

power_bit : (m n : ℕ) → 1 ≤ m → 1 ≤ n → bit_at (2 ^ (m - 1)) (n - 1) ≡ bit_of (m == n)
power_bit m n p q =
    elim (eqb_tells m n) [
      | inl t ↦ rw (t.0, t.1) (bit_at-pow_same (n - 1))
      | inr t ↦ let ne : (n - 1) ≢ (m - 1) = λ e. t.1 (omega arith) in rw t.0 (bit_at-pow_other (m - 1) (n - 1) ne)
    ]

joined : (a : ℕ) (x y : Bool) → max (max a (bit_of x)) (bit_of y) ≡ max a (bit_of (x || y))
joined a true true = omega arith
joined a true false = omega arith
joined a false true = omega arith
joined a false false = omega arith

abbrev more : ℕ → ℕ → ℕ
more mask n = bit_or mask (2 ^ (n - 1))

bits_from : (found : List ℕ) (start n : ℕ) → ArePositive found → 1 ≤ n → bit_at (fold more start found) (n - 1) ≡ max (bit_at start (n - 1)) (bit_of (has_number found n))
bits_from [] start n p q = omega arith
bits_from (m ∷ ms) start n p q =
    bits_from ms (more start m) n p.1 q
    ∙ ap (λ (b : ℕ). max b (bit_of (has_number ms n))) (bit_at_or start (2 ^ (m - 1)) (n - 1) ∙ ap (λ (b : ℕ). max (bit_at start (n - 1)) b) (power_bit m n p.0 q))
    ∙ joined (bit_at start (n - 1)) (m == n) (has_number ms n)

pub bit_of_phase : (found : List ℕ) (mask n : ℕ) → IsMaskOf found mask → 1 ≤ n → bit_at mask (n - 1) ≡ bit_of (has_number found n)
unfolding mask_of
bit_of_phase found mask n is q =
    let z : bit_at 0 (n - 1) ≡ 0 = bit_at-zero (n - 1) in
    let b = bits_from found 0 n is.positive q in
    rw is.value (b ∙ rw z (omega arith))

-- ---- how many phases

few_or : (p q : ℕ → Bool) (ns : List ℕ) → length (filter (λ n. p n || q n) ns) ≤ length (filter p ns) + length (filter q ns)
few_or p q [] = omega arith
few_or p q (n ∷ ns) =
    let rest = few_or p q ns in
    elim (cases_Bool (p n)) [
      | inl has ↦ elim (cases_Bool (q n)) [ inl also ↦ rw (has, also) (omega arith) | inr lacks ↦ rw (has, lacks) (omega arith) ]
      | inr other ↦ elim (cases_Bool (q n)) [ inl also ↦ rw (other, also) (omega arith) | inr lacks ↦ rw (other, lacks) rest ]
    ]

none_later : (m a k : ℕ) → m < a → length (filter (λ n. m == n) (range_with_len a k)) ≤ 0
none_later m a zero lt = omega arith
none_later m a (suc k) lt =
    let rest = none_later m (a + 1) k (omega arith) in
    elim (eqb_tells m a) [
      | inl t ↦ let same : m ≡ a = t.1 in absurd (omega arith)
      | inr t ↦ rw t.0 rest
    ]

one_at_most : (m a k : ℕ) → length (filter (λ n. m == n) (range_with_len a k)) ≤ 1
one_at_most m a zero = omega arith
one_at_most m a (suc k) = elim (eqb_tells m a) [
  | inl t ↦ let same : m ≡ a = t.1 in let rest = none_later m (a + 1) k (omega arith) in rw t.0 (omega arith)
  | inr t ↦ rw t.0 (one_at_most m (a + 1) k)
]

none_of_none : (a k : ℕ) → length (filter (has_number []) (range_with_len a k)) ≤ 0
none_of_none a zero = omega arith
none_of_none a (suc k) = none_of_none (a + 1) k

few_found : (found : List ℕ) (a k : ℕ) → length (filter (has_number found) (range_with_len a k)) ≤ length found
few_found [] a k = none_of_none a k
few_found (m ∷ ms) a k =
    let each = few_or (λ n. m == n) (has_number ms) (range_with_len a k) in
    let one = one_at_most m a k in
    let rest = few_found ms a k in
    omega arith

few_like : (p q : ℕ → Bool) (a k : ℕ) → ((n : ℕ) → a ≤ n → p n ≡ q n) → length (filter p (range_with_len a k)) ≤ length (filter q (range_with_len a k))
few_like p q a zero h = omega arith
few_like p q a (suc k) h =
    let rest = few_like p q (a + 1) k (λ n le. h n (omega arith)) in
    elim (cases_Bool (q a)) [
      | inl has ↦ rw (h a (omega arith), has) (omega arith)
      | inr lacks ↦ rw (h a (omega arith), lacks) rest
    ]

bit_is : (b : Bool) (bit : ℕ) → bit ≡ bit_of b → (bit == 1) ≡ b
bit_is true bit e = rw e refl
bit_is false bit e = rw e refl

pub few_phases : (found : List ℕ) (mask : ℕ) → IsMaskOf found mask → length found ≤ 8 → length (phases_in mask) ≤ 8
few_phases found mask is few =
    let like = few_like (λ n. bit_at mask (n - 1) == 1) (has_number found) 1 16 (λ n le. bit_is (has_number found n) (bit_at mask (n - 1)) (bit_of_phase found mask n is le)) in
    let all = few_found found 1 16 in
    omega arith

fold_push : (found : List ℕ) (start n : ℕ) → fold more start (found ++ n ∷ []) ≡ more (fold more start found) n
fold_push [] start n = refl
fold_push (m ∷ ms) start n = fold_push ms (more start m) n

positive_push : (found : List ℕ) (n : ℕ) → ArePositive found → 1 ≤ n → ArePositive (found ++ n ∷ [])
positive_push [] n p q = (q, tt)
positive_push (m ∷ ms) n p q = (p.0, positive_push ms n p.1 q)

pub marked : (found : List ℕ) (mask new n : ℕ) → IsMaskOf found mask → 1 ≤ n → new ≡ bit_or mask (2 ^ (n - 1)) → IsMaskOf (found ++ n ∷ []) new
unfolding mask_of
marked found mask new n is q e = record {
  value = e ∙ ap (λ (m : ℕ). more m n) is.value ∙ sym (fold_push found 0 n);
  positive = positive_push found n is.positive q;
}

-- ---- one parent

is_there : (found : List ℕ) (mask n : ℕ) (r : Bool) → IsMaskOf found mask → 1 ≤ n → (IsTrue r ↔ Has mask (n - 1)) → r ≡ true → has_number found n ≡ true
is_there found mask n r is q h t = bit_tells (has_number found n) (sym (bit_of_phase found mask n is q) ∙ h.0 t)
  where
    bit_tells : (b : Bool) → bit_of b ≡ 1 → b ≡ true
    bit_tells true e = refl
    bit_tells false e = absurd (omega arith)

is_new : (found : List ℕ) (mask n : ℕ) (r : Bool) → IsMaskOf found mask → 1 ≤ n → (IsTrue r ↔ Has mask (n - 1)) → r ≡ false → has_number found n ≡ false
is_new found mask n r is q h f = bit_tells (has_number found n) (bit_of_phase found mask n is q)
  where
    bit_tells : (b : Bool) → bit_at mask (n - 1) ≡ bit_of b → b ≡ false
    bit_tells false e = refl
    bit_tells true e = let p : r ≡ true = h.1 e in cc

pub not_again : (phases : List PhaseItem) (found : List ℕ) (mask n : ℕ) (d : Data) (r : Bool) → Some n ≡ configured phases d → 1 ≤ n → (IsTrue r ↔ Has mask (n - 1)) → r ≡ true → IsMaskOf found mask → Adds found (next_phase phases found d) None
not_again phases found mask n d r e q h t is = rw (← e, is_there found mask n r is q h t) tt

pub once : (phases : List PhaseItem) (found : List ℕ) (mask new n : ℕ) (d : Data) (r : Bool) → Some n ≡ configured phases d → 1 ≤ n → (IsTrue r ↔ Has mask (n - 1)) → r ≡ false → new ≡ bit_or mask (2 ^ (n - 1)) → IsMaskOf found mask
    → Adds found (next_phase phases found d) (Some new)
once phases found mask new n d r e q h f v is = rw (← e, is_new found mask n r is q h f) (marked found mask new n is q v)

-- ---- all parents

abbrev pub Gathered : List PhaseItem → List Value → ℕ → ℕ → Type 0
Gathered phases items i mask =
    (found : List ℕ) × IsMaskOf found mask × (length found ≡ i) × (phases_from phases found (items_view (drop i items)) ≡ phases_from phases [] (items_view items))

module _ (phases : List PhaseItem) (items : List Value) (i mask : ℕ) (v : Value) where
  pub parents_more : (new : ℕ) → i < length items → v ≡ get_or items i v → ((found : List ℕ) → IsMaskOf found mask → Adds found (next_phase phases found (view v)) (Some new)) → Gathered phases items i mask → Gathered phases items (i + 1) new
  unfolding phases_from
  parents_more new lt here adds (found, is, len, left) = step (next_phase phases found (view v)) refl (adds found is)
    where
      step : (o : Option ℕ) → next_phase phases found (view v) ≡ o → Adds found o (Some new) → Gathered phases items (i + 1) new
      step None e a = absurd a
      step (Some n) e a =
          let d : next_phase phases found (view (get_or items i v)) ≡ Some n = rw (← here) e in
          (found ++ n ∷ [], a, length_push found n ∙ ap (λ (k : ℕ). k + 1) len, sym (rw (items_view-drop items i v lt, d) refl) ∙ left)

  pub parents_refused : i < length items → v ≡ get_or items i v → ((found : List ℕ) → IsMaskOf found mask → Adds found (next_phase phases found (view v)) None) → Gathered phases items i mask → phases_from phases [] (items_view items) ≡ None
  unfolding phases_from
  parents_refused lt here adds (found, is, len, left) = step (next_phase phases found (view v)) refl (adds found is)
    where
      step : (o : Option ℕ) → next_phase phases found (view v) ≡ o → Adds found o None → phases_from phases [] (items_view items) ≡ None
      step (Some n) e a = absurd a
      step None e a =
          let d : next_phase phases found (view (get_or items i v)) ≡ None = rw (← here) e in
          sym left ∙ rw (items_view-drop items i v lt, d) refl

parents_over : (phases : List PhaseItem) (items : List Value) (i : ℕ) (found : List ℕ) → length items ≤ i → phases_from phases found (items_view (drop i items)) ≡ Some found
unfolding phases_from
parents_over phases items i found le = rw (drop_all i items le) refl

pub parents_done : (phases : List PhaseItem) (items : List Value) (i mask : ℕ) (few : Bool) → length items ≤ i → i ≤ length items → few ≡ (nat_le 1 (length items) && nat_le (length items) 8) → Gathered phases items i mask
    → cond few (Some mask) None ≡ option_map mask_of (passing few_parents (phases_from phases [] (items_view items)))
parents_done phases items i mask few le ge f (found, is, len, left) =
    let whole : phases_from phases [] (items_view items) ≡ Some found = sym left ∙ parents_over phases items i found le in
    let n : length found ≡ length items = len ∙ (omega arith) in
    rw (whole, n, ← f) (by_few few)
  where
    by_few : (b : Bool) → cond b (Some mask) None ≡ option_map mask_of (cond b (Some found) None)
    by_few true = ap Some is.value
    by_few false = refl
