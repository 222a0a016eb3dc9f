-- Masks as numbers.
use Rattle.std.proofs.Common.{min, ◌≡◌, ◌≢◌, refl, ◌∙◌, ◌⊎◌, inl, inr, ◌↔◌, ℕ, ◌*◌, ◌%◌, ◌^◌, ◌<◌, ◌≤◌, IsTrue, not, nat_eq, arith, w16}
use Rattle.std.proofs.lemmas.Bool.{cases_eq, cases_lt}
use Rattle.std.specs.Int.{bit_at}
use Rattle.std.proofs.Math.Pow.{pow_pos}
use Rattle.std.specs.Prelude.{bit_and, bit_or}
use Rattle.std.proofs.lemmas.Nat.Bits.{bit_at_set_same, bit_at_set_other, and_pow, bit_at-lt, bit_at-zero, bit_at_and, bit_at_ones, bit_at_ones_above, same_from_bits}
use Rattle.std.proofs.lemmas.Nat.{and_le_r}
use Rattle.std.proofs.lemmas.Grind.{common_steps}
use Rattle.colour_machine.specs.Mask.{Has}

pub has_none : (c : ℕ) → Has 0 c → ⊥
has_none c h = let z = bit_at-zero c in omega arith

pub has_set : (n k c : ℕ) → k < 16 → Has (bit_or n (1 * 2 ^ k % 65536)) c ↔ (Has n c ⊎ (c ≡ k))
has_set n k c h = elim (cases_eq c k) [
  | inl e ↦ rw e (λ _. inr refl, λ _. bit_at_set_same w16 n k h)
  | inr ne ↦ let o : bit_at (bit_or n (1 * 2 ^ k % 65536)) c ≡ bit_at n c = bit_at_set_other w16 n k h c ne in rw o (λ x. inl x, λ x. elim x [ inl y ↦ y | inr y ↦ absurd (ne y) ])
]

pow_fits : (k : ℕ) → k < 16 → 1 * 2 ^ k % 65536 ≡ 2 ^ k
pow_fits k h = grind (arith, common_steps)

not_zero : (b p : ℕ) → b < 2 → 0 < p → IsTrue (not (nat_eq (b * p) 0)) ↔ (b ≡ 1)
not_zero b p h q = grind (arith, common_steps)

pub has_test : (n k : ℕ) → k < 16 → IsTrue (not (nat_eq (bit_and n (1 * 2 ^ k % 65536)) 0)) ↔ Has n k
has_test n k h = rw (pow_fits k h, and_pow n k) (not_zero (bit_at n k) (2 ^ k) (bit_at-lt n k) (pow_pos k))

least_bit : (x y : ℕ) → x < 2 → (x ≡ 1 → y ≡ 1) → min x y ≡ x
least_bit x y l h = grind arith

-- a mask with no colour that another lacks is no larger a number
has_le : (a b : ℕ) → ((c : ℕ) → Has a c → Has b c) → a ≤ b
has_le a b h =
    let bits : (i : ℕ) → bit_at (bit_and a b) i ≡ bit_at a i = λ i. bit_at_and a b i ∙ least_bit (bit_at a i) (bit_at b i) (bit_at-lt a i) (h i) in
    let same : bit_and a b ≡ a = same_from_bits (bit_and a b) a bits in
    let le = and_le_r a b in
    omega arith

-- one that has more colours is a larger number
pub has_more : (a b : ℕ) → ((c : ℕ) → Has a c → Has b c) → a ≢ b → a < b
has_more a b h ne = let le = has_le a b h in omega arith

-- masks with the same colours are equal
pub same_mask : (a b : ℕ) → ((c : ℕ) → Has a c ↔ Has b c) → a ≡ b
same_mask a b h = let l = has_le a b (λ c. (h c).0) in let g = has_le b a (λ c. (h c).1) in omega arith

pub has_all : (c : ℕ) → c < 16 → Has 65535 c
has_all c h = bit_at_ones 16 c h

-- the mask of all colours has no others
pub has_ones : (c : ℕ) → Has 65535 c ↔ (c < 16)
has_ones c = (λ h. elim (cases_lt c 16) [ inl l ↦ l | inr g ↦ let z : bit_at 65535 c ≡ 0 = bit_at_ones_above 16 c g in absurd (cc) ], has_all c)

-- a mask of colours below 16 is a number of 16 bits
pub has_small : (n : ℕ) → ((c : ℕ) → Has n c → c < 16) → n < 65536
has_small n h = let le = has_le n 65535 (λ c x. has_all c (h c x)) in omega arith
