-- Numbers and their bytes.
use Rattle.std.proofs.Common.{◌≡◌, ◌≤◌, ◌<◌, ◌+◌, ◌-◌, ◌*◌, ◌/◌, ◌%◌, ◌^◌, ℕ, true, false, List, [], ◌∷◌, ◌++◌, Ok, Err, refl, sym, ap, ◌∙◌, arith, inl, inr, nat_lt, if◌then◌else◌}
use Rattle.std.specs.Prelude.{◌==◌, ◌||◌, nat_le}
use Rattle.std.proofs.lemmas.Bool.{cases_lt, lt-ltb, le-ltb, ltb-true, ltb-false}
use Rattle.std.proofs.lemmas.Bool.Decides.{nat_tests}
use Rattle.hour_pack.specs.declared.pack_error.PackError.{PackError}
use Rattle.hour_pack.specs.declared.pack_error.PackError.TheVariants.{Row as BadRow}
use Rattle.hour_pack.specs.Grammar.{AreBytes}
use Rattle.hour_pack.specs.Number.{Spells, number_bytes}
use Rattle.hour_pack.specs.Reading.{number_at, second_byte, third_byte}
use Rattle.hour_pack.proofs.Bytes.{chosen, ok_is, Takes}

-- ---- the bytes of a number

bytes-one : (n : ℕ) → n < 128 → number_bytes n ≡ n ∷ []
unfolding number_bytes
bytes-one n h = let t : nat_lt n 128 ≡ true = lt-ltb n 128 h in rw t refl

bytes-two : (n : ℕ) → 128 ≤ n → n < 16384 → number_bytes n ≡ (128 + n % 128) ∷ n / 128 ∷ []
unfolding number_bytes
bytes-two n h k =
    let t : nat_lt n 128 ≡ false = le-ltb n 128 h in
    let u : nat_lt n 16384 ≡ true = lt-ltb n 16384 k in
    rw (t, u) refl

bytes-three : (n : ℕ) → 16384 ≤ n → number_bytes n ≡ (128 + n % 128) ∷ (128 + n / 128 % 128) ∷ n / 128 / 128 ∷ []
unfolding number_bytes
bytes-three n h =
    let t : nat_lt n 128 ≡ false = le-ltb n 128 (omega arith) in
    let u : nat_lt n 16384 ≡ false = le-ltb n 16384 h in
    rw (t, u) refl

two-bytes : (a b : ℕ) → 128 ≤ a → a < 256 → 0 < b → b < 128 → number_bytes ((a - 128) + 128 * b) ≡ a ∷ b ∷ []
two-bytes a b la ha lb hb =
    let n : ℕ = (a - 128) + 128 * b in
    let low : 128 + n % 128 ≡ a = omega arith in
    let high : n / 128 ≡ b = omega arith in
    bytes-two n (omega arith) (omega arith) ∙ rw (low, high) refl

three-bytes : (a b c : ℕ) → 128 ≤ a → a < 256 → 128 ≤ b → b < 256 → 0 < c → c < 128
    → number_bytes ((a - 128) + 128 * (b - 128) + 16384 * c) ≡ a ∷ b ∷ c ∷ []
three-bytes a b c la ha lb hb lc hc =
    let n : ℕ = (a - 128) + 128 * (b - 128) + 16384 * c in
    let low : 128 + n % 128 ≡ a = omega arith in
    let more : n / 128 ≡ (b - 128) + 128 * c = omega arith in
    let middle : 128 + ((b - 128) + 128 * c) % 128 ≡ b = omega arith in
    let high : ((b - 128) + 128 * c) / 128 ≡ c = omega arith in
    bytes-three n (omega arith) ∙ rw (low, more, middle, high) refl

-- ---- what is read has those bytes

-- a number was taken from the front
pub record NumberTakes (bytes : List ℕ) (n : ℕ) (rest : List ℕ) : Type 0 where
  pub takes : Takes bytes (number_bytes n) rest
  pub small : n < 2 ^ 21

taken : (bytes : List ℕ) (p q : ℕ × List ℕ) → p ≡ q → NumberTakes bytes p.0 p.1 → NumberTakes bytes q.0 q.1
taken bytes p q e h = rw (← e) h

pub not_count : (e : PackError) (x : ℕ × List ℕ) → Err e ≡ Ok x → ⊥
not_count e x h = cc

third-takes : (row a b : ℕ) (bytes : List ℕ) (n : ℕ) (rest : List ℕ) → 128 ≤ a → a < 256 → 128 ≤ b → b < 256 → AreBytes bytes
    → third_byte row a b bytes ≡ Ok (n, rest) → NumberTakes (a ∷ b ∷ bytes) n rest
third-takes row a b [] n rest la ha lb hb fits e = absurd cc
third-takes row a b (c ∷ bytes) n rest la ha lb hb fits e =
    elim (chosen ((c == 0) || nat_le 128 c) (Err (BadRow row)) (Ok ((a - 128) + 128 * (b - 128) + 16384 * c, bytes)) (Ok (n, rest)) e) [
      | inl p ↦ absurd (not_count (BadRow row) (n, rest) p.1)
      | inr p ↦
          let lc : 0 < c = grind (arith, nat_tests, p.0) in
          let hc : c < 128 = grind (arith, nat_tests, p.0) in
          taken (a ∷ b ∷ c ∷ bytes) ((a - 128) + 128 * (b - 128) + 16384 * c, bytes) (n, rest) (ok_is ((a - 128) + 128 * (b - 128) + 16384 * c, bytes) (n, rest) p.1) (record {
            takes = record { parts = rw (three-bytes a b c la ha lb hb lc hc) refl; rest_fits = fits.1 };
            small = omega arith;
          })
    ]

second-takes : (row a : ℕ) (bytes : List ℕ) (n : ℕ) (rest : List ℕ) → 128 ≤ a → a < 256 → AreBytes bytes
    → second_byte row a bytes ≡ Ok (n, rest) → NumberTakes (a ∷ bytes) n rest
second-takes row a [] n rest la ha fits e = absurd cc
second-takes row a (b ∷ bytes) n rest la ha fits e =
    elim (chosen (b == 0) (Err (BadRow row)) (if nat_lt b 128 then Ok ((a - 128) + 128 * b, bytes) else third_byte row a b bytes) (Ok (n, rest)) e) [
      | inl p ↦ absurd (not_count (BadRow row) (n, rest) p.1)
      | inr p ↦ elim (chosen (nat_lt b 128) (Ok ((a - 128) + 128 * b, bytes)) (third_byte row a b bytes) (Ok (n, rest)) p.1) [
        | inl q ↦
            let lb : 0 < b = grind (arith, nat_tests, p.0) in
            let hb : b < 128 = ltb-true _ _ q.0 in
            taken (a ∷ b ∷ bytes) ((a - 128) + 128 * b, bytes) (n, rest) (ok_is ((a - 128) + 128 * b, bytes) (n, rest) q.1) (record {
              takes = record { parts = rw (two-bytes a b la ha lb hb) refl; rest_fits = fits.1 };
              small = omega arith;
            })
        | inr q ↦ third-takes row a b bytes n rest la ha (ltb-false _ _ q.0) fits.0 fits.1 q.1
      ]
    ]

pub number_takes : (row : ℕ) (bytes : List ℕ) (n : ℕ) (rest : List ℕ) → AreBytes bytes → number_at row bytes ≡ Ok (n, rest) → NumberTakes bytes n rest
unfolding number_at
number_takes row [] n rest fits e = absurd cc
number_takes row (a ∷ bytes) n rest fits e =
    elim (chosen (nat_lt a 128) (Ok (a, bytes)) (second_byte row a bytes) (Ok (n, rest)) e) [
      | inl p ↦
          let ha : a < 128 = ltb-true _ _ p.0 in
          taken (a ∷ bytes) (a, bytes) (n, rest) (ok_is (a, bytes) (n, rest) p.1) (record {
            takes = record { parts = rw (bytes-one a ha) refl; rest_fits = fits.1 };
            small = omega arith;
          })
      | inr p ↦ second-takes row a bytes n rest (ltb-false _ _ p.0) fits.0 fits.1 p.1
    ]

-- ---- what has those bytes is read

again-one : (row n : ℕ) (rest : List ℕ) → n < 128 → number_at row (n ∷ rest) ≡ Ok (n, rest)
unfolding number_at
again-one row n rest h = let t : nat_lt n 128 ≡ true = lt-ltb n 128 h in rw t refl

again-two : (row a b : ℕ) (rest : List ℕ) → 128 ≤ a → 0 < b → b < 128 → number_at row (a ∷ b ∷ rest) ≡ Ok ((a - 128) + 128 * b, rest)
unfolding number_at
again-two row a b rest la lb hb =
    let t : nat_lt a 128 ≡ false = le-ltb a 128 la in
    let u : (b == 0) ≡ false = grind (arith, nat_tests) in
    let v : nat_lt b 128 ≡ true = lt-ltb b 128 hb in
    rw (t, u, v) refl

again-three : (row a b c : ℕ) (rest : List ℕ) → 128 ≤ a → 128 ≤ b → 0 < c → c < 128
    → number_at row (a ∷ b ∷ c ∷ rest) ≡ Ok ((a - 128) + 128 * (b - 128) + 16384 * c, rest)
unfolding number_at
again-three row a b c rest la lb lc hc =
    let t : nat_lt a 128 ≡ false = le-ltb a 128 la in
    let u : (b == 0) ≡ false = grind (arith, nat_tests) in
    let v : nat_lt b 128 ≡ false = le-ltb b 128 lb in
    let w : ((c == 0) || nat_le 128 c) ≡ false = grind (arith, nat_tests) in
    rw (t, u, v, w) refl

pub number_again : (row n : ℕ) (rest : List ℕ) → n < 2 ^ 21 → number_at row (number_bytes n ++ rest) ≡ Ok (n, rest)
number_again row n rest small =
    elim (cases_lt n 128) [
      | inl h ↦ rw (bytes-one n h) (again-one row n rest h)
      | inr h ↦ elim (cases_lt n 16384) [
        | inl k ↦
            let same : ((128 + n % 128) - 128) + 128 * (n / 128) ≡ n = omega arith in
            rw (bytes-two n h k) (again-two row (128 + n % 128) (n / 128) rest (omega arith) (omega arith) (omega arith)
            ∙ ap (λ (m : ℕ). Ok (m, rest)) same)
        | inr k ↦
            let same : ((128 + n % 128) - 128) + 128 * ((128 + n / 128 % 128) - 128) + 16384 * (n / 128 / 128) ≡ n = omega arith in
            rw (bytes-three n k) (again-three row (128 + n % 128) (128 + n / 128 % 128) (n / 128 / 128) rest (omega arith) (omega arith) (omega arith) (omega arith)
            ∙ ap (λ (m : ℕ). Ok (m, rest)) same)
      ]
    ]

-- ---- spellings

low-seven : (b : ℕ) → 128 ≤ b → b < 256 → b % 128 ≡ b - 128
low-seven b l h = omega arith

-- a spelling is the bytes of its number
pub spelling-is : (bytes : List ℕ) (n : ℕ) → Spells bytes n → (bytes ≡ number_bytes n) × (n < 2 ^ 21)
spelling-is [] n s = absurd s.number
spelling-is (a ∷ []) n s =
    let h : a < 128 = s.number in
    let e : n ≡ a = s.value ∙ omega arith in
    rw e (sym (bytes-one a h), omega arith)
spelling-is (a ∷ b ∷ []) n s =
    let i : (128 ≤ a) × (a < 256) × ((0 < b) × (b < 128)) = s.number in
    let e : n ≡ (a - 128) + 128 * b = s.value ∙ omega (arith, low-seven a i.0 i.1) in
    rw e (sym (two-bytes a b i.0 i.1 i.2.0 i.2.1), omega arith)
spelling-is (a ∷ b ∷ c ∷ []) n s =
    let i : (128 ≤ a) × (a < 256) × ((128 ≤ b) × (b < 256) × ((0 < c) × (c < 128))) = s.number in
    let e : n ≡ (a - 128) + 128 * (b - 128) + 16384 * c = s.value ∙ omega (arith, low-seven a i.0 i.1, low-seven b i.2.0 i.2.1) in
    rw e (sym (three-bytes a b c i.0 i.1 i.2.0 i.2.1 i.2.2.0 i.2.2.1), omega arith)
spelling-is (a ∷ b ∷ c ∷ d ∷ bytes) n s = absurd (omega (arith, s.few))

-- the bytes of a number are a spelling of it
pub spelled : (n : ℕ) → n < 2 ^ 21 → Spells (number_bytes n) n
spelled n small =
    elim (cases_lt n 128) [
      | inl h ↦ rw (bytes-one n h) (record { few = omega arith; number = h; value = omega arith })
      | inr h ↦ elim (cases_lt n 16384) [
        | inl k ↦ rw (bytes-two n h k) (record {
          few = omega arith;
          number = (omega arith, omega arith, (omega arith, omega arith));
          value = omega arith;
        })
        | inr k ↦ rw (bytes-three n k) (record {
          few = omega arith;
          number = (omega arith, omega arith, (omega arith, omega arith, (omega arith, omega arith)));
          value = omega arith;
        })
      ]
    ]

-- no number begins another
pub number-apart : (m n : ℕ) (x y : List ℕ) → m < 2 ^ 21 → n < 2 ^ 21 → number_bytes m ++ x ≡ number_bytes n ++ y → (m ≡ n) × (x ≡ y)
number-apart m n x y hm hn e =
    let read : Ok (m, x) ≡ Ok (n, y) = sym (number_again 1 m x hm) ∙ ap (number_at 1) e ∙ number_again 1 n y hn in
    let pair : (m, x) ≡ (n, y) = ok_is (m, x) (n, y) read in
    (ap (λ (p : ℕ × List ℕ). p.0) pair, ap (λ (p : ℕ × List ℕ). p.1) pair)

pub spelling-one : (a b : List ℕ) (n : ℕ) → Spells a n → Spells b n → a ≡ b
spelling-one a b n s t = (spelling-is a n s).0 ∙ sym (spelling-is b n t).0

pub spelling-apart : (a b x y : List ℕ) (m n : ℕ) → Spells a m → Spells b n → a ++ x ≡ b ++ y → (a ≡ b) × (x ≡ y)
spelling-apart a b x y m n s t e =
    let p = spelling-is a m s in
    let q = spelling-is b n t in
    let both : number_bytes m ++ x ≡ number_bytes n ++ y = rw (← p.0, ← q.0) e in
    let same = number-apart m n x y p.1 q.1 both in
    (p.0 ∙ ap number_bytes same.0 ∙ sym q.0, same.1)
