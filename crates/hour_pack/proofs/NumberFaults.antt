-- What begins as a number, and is none.
use Rattle.std.proofs.Common.{◌≡◌, ◌≤◌, ◌+◌, ◌-◌, ◌*◌, ℕ, zero, suc, true, false, List, [], ◌∷◌, ◌++◌, Ok, Err, refl, arith, inl, inr, nat_lt, if◌then◌else◌}
use Rattle.std.specs.Prelude.{◌==◌, ◌||◌, ◌⊎◌, nat_le}
use Rattle.std.proofs.lemmas.Bool.{le-ltb, ltb-false}
use Rattle.std.proofs.lemmas.Bool.Decides.{nat_tests}
use Rattle.hour_pack.specs.declared.pack_error.PackError.{PackError}
use Rattle.hour_pack.specs.declared.pack_error.PackError.TheVariants.{Short}
use Rattle.hour_pack.specs.declared.pack_error.PackError.TheVariants.{Row as BadRow}
use Rattle.hour_pack.specs.Faults.{IsOpen, IsBadThird, IsBadSecond, IsBadNumber}
use Rattle.hour_pack.specs.Reading.{number_at, second_byte, third_byte}
use Rattle.hour_pack.proofs.Bytes.{chosen, fault}

-- a number failed, as it may
abbrev pub NumberFails : ℕ → List ℕ → PackError → Type 0
NumberFails row bytes e = ((e ≡ Short) × IsOpen bytes) ⊎ ((e ≡ BadRow row) × IsBadNumber bytes)

failed : (d e : PackError) → fault (ℕ × List ℕ) d ≡ Err e → e ≡ d
failed d e h = cc

not_failed : (x : ℕ × List ℕ) (e : PackError) → Ok x ≡ Err e → ⊥
not_failed x e h = cc

third-fails : (row a b : ℕ) (bytes : List ℕ) (e : PackError) → 128 ≤ a → 128 ≤ b → third_byte row a b bytes ≡ Err e → NumberFails row (a ∷ b ∷ bytes) e
third-fails row a b [] e la lb h = inl (failed Short e h, (omega arith, (la, (lb, tt))))
third-fails row a b (c ∷ bytes) e la lb h =
    elim (chosen ((c == 0) || nat_le 128 c) (Err (BadRow row)) (Ok ((a - 128) + 128 * (b - 128) + 16384 * c, bytes)) (Err e) h) [
      | inl p ↦ inr (failed (BadRow row) e p.1, (la, inr (lb, bad c p.0)))
      | inr p ↦ absurd (not_failed ((a - 128) + 128 * (b - 128) + 16384 * c, bytes) e p.1)
    ]
  where
    bad : (c : ℕ) → ((c == 0) || nat_le 128 c) ≡ true → (c ≡ 0) ⊎ (128 ≤ c)
    bad zero t = inl refl
    bad (suc n) t = inr (grind (arith, nat_tests, t))

second-fails : (row a : ℕ) (bytes : List ℕ) (e : PackError) → 128 ≤ a → second_byte row a bytes ≡ Err e → NumberFails row (a ∷ bytes) e
second-fails row a [] e la h = inl (failed Short e h, (omega arith, (la, tt)))
second-fails row a (b ∷ bytes) e la h =
    elim (chosen (b == 0) (Err (BadRow row)) (if nat_lt b 128 then Ok ((a - 128) + 128 * b, bytes) else third_byte row a b bytes) (Err e) h) [
      | inl p ↦
          let none : b ≡ 0 = grind (arith, nat_tests, p.0) in
          inr (failed (BadRow row) e p.1, (la, inl none))
      | inr p ↦ elim (chosen (nat_lt b 128) (Ok ((a - 128) + 128 * b, bytes)) (third_byte row a b bytes) (Err e) p.1) [
        | inl q ↦ absurd (not_failed ((a - 128) + 128 * b, bytes) e q.1)
        | inr q ↦ third-fails row a b bytes e la (ltb-false _ _ q.0) q.1
      ]
    ]

pub number-fails : (row : ℕ) (bytes : List ℕ) (e : PackError) → number_at row bytes ≡ Err e → NumberFails row bytes e
unfolding number_at
number-fails row [] e h = inl (failed Short e h, (omega arith, tt))
number-fails row (a ∷ bytes) e h =
    elim (chosen (nat_lt a 128) (Ok (a, bytes)) (second_byte row a bytes) (Err e) h) [
      | inl p ↦ absurd (not_failed (a, bytes) e p.1)
      | inr p ↦ second-fails row a bytes e (ltb-false _ _ p.0) p.1
    ]

pub open-short : (row : ℕ) (bytes : List ℕ) → IsOpen bytes → number_at row bytes ≡ Err Short
unfolding number_at
open-short row [] h = refl
open-short row (a ∷ []) h =
    let t : nat_lt a 128 ≡ false = le-ltb a 128 h.1.0 in
    rw t refl
open-short row (a ∷ b ∷ []) h =
    let t : nat_lt a 128 ≡ false = le-ltb a 128 h.1.0 in
    let u : (b == 0) ≡ false = grind (arith, nat_tests, h.1.1.0) in
    let v : nat_lt b 128 ≡ false = le-ltb b 128 h.1.1.0 in
    rw (t, u, v) refl
open-short row (a ∷ b ∷ c ∷ bytes) h = absurd (omega (arith, h.0))

bad-third : (row a b : ℕ) (bytes : List ℕ) → IsBadThird bytes → third_byte row a b bytes ≡ Err (BadRow row)
bad-third row a b [] h = absurd h
bad-third row a b (c ∷ bytes) h =
    let t : ((c == 0) || nat_le 128 c) ≡ true = bad c h in
    rw t refl
  where
    bad : (c : ℕ) → (c ≡ 0) ⊎ (128 ≤ c) → ((c == 0) || nat_le 128 c) ≡ true
    bad zero h = refl
    bad (suc n) (inl h) = absurd (omega (arith, h))
    bad (suc n) (inr h) = grind (arith, nat_tests, h)

bad-second : (row a : ℕ) (bytes : List ℕ) → IsBadSecond bytes → second_byte row a bytes ≡ Err (BadRow row)
bad-second row a [] h = absurd h
bad-second row a (b ∷ bytes) (inl h) = rw h refl
bad-second row a (b ∷ bytes) (inr h) =
    let u : (b == 0) ≡ false = grind (arith, nat_tests, h.0) in
    let v : nat_lt b 128 ≡ false = le-ltb b 128 h.0 in
    rw (u, v) (bad-third row a b bytes h.1)

pub bad-number : (row : ℕ) (bytes : List ℕ) → IsBadNumber bytes → number_at row bytes ≡ Err (BadRow row)
unfolding number_at
bad-number row [] h = absurd h
bad-number row (a ∷ bytes) h =
    let t : nat_lt a 128 ≡ false = le-ltb a 128 h.0 in
    rw t (bad-second row a bytes h.1)

-- it stays so, whatever follows
pub bad-more : (bytes more : List ℕ) → IsBadNumber bytes → IsBadNumber (bytes ++ more)
bad-more [] more h = absurd h
bad-more (a ∷ []) more h = absurd h.1
bad-more (a ∷ b ∷ []) more (la, inl h) = (la, inl h)
bad-more (a ∷ b ∷ []) more (la, inr h) = absurd h.1
bad-more (a ∷ b ∷ c ∷ bytes) more h = h
