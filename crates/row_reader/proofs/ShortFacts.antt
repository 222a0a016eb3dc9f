-- Seconds of two digits and a dot and one digit.
use Rattle.std.proofs.Common.{◌≡◌, ◌≤◌, ◌+◌, ◌*◌, ℕ, true, List, [], ◌∷◌, length, get_or, refl, ap, ◌∙◌, arith}
use Rattle.std.specs.Prelude.{nat_le, Option, Some}
use Rattle.std.proofs.lemmas.Bool.Decides.{nat_tests}
use Rattle.row_reader.specs.Number.{digit, is_digit, number_of}
use Rattle.row_reader.specs.Stamp.{cut, seconds_of}
use Rattle.row_reader.proofs.CutFacts.{Lacks, cut-found}

-- the byte is a digit, and what it says is at most this
record IsDigitTo (b most : ℕ) : Type 0 where
  pub test : is_digit b ≡ true
  pub few : digit b ≤ most

digit_to : (b most : ℕ) → most ≤ 9 → 48 ≤ b → b ≤ 48 + most → IsDigitTo b most
digit_to b most small low high = record { test = grind (arith, nat_tests); few = omega arith }

two_digits : (a b : ℕ) → IsDigitTo a 5 → IsDigitTo b 9 → number_of 2 2 59 (a ∷ b ∷ []) ≡ Some (10 * (0 + digit a) + digit b)
two_digits a b h k =
    let x = h.few in
    let y = k.few in
    let within : nat_le (10 * (0 + digit a) + digit b) 59 ≡ true = grind (arith, nat_tests) in
    rw (h.test, k.test, within) refl

one_digit : (c : ℕ) → IsDigitTo c 9 → number_of 1 9 999999999 (c ∷ []) ≡ Some (0 + digit c)
one_digit c h =
    let x = h.few in
    let within : nat_le (0 + digit c) 999999999 ≡ true = grind (arith, nat_tests) in
    rw (h.test, within) refl

four_bytes : (a b c : ℕ) → 48 ≤ a → a ≤ 53 → 48 ≤ b → b ≤ 57 → 48 ≤ c → c ≤ 57
    → seconds_of (cut 46 (a ∷ b ∷ 46 ∷ c ∷ [])) (a ∷ b ∷ 46 ∷ c ∷ []) ≡ Some (100 * digit a + 10 * digit b + digit c)
four_bytes a b c al ah bl bh cl ch =
    let lacks : Lacks 46 (a ∷ b ∷ []) = ((λ e. omega arith), ((λ e. omega arith), tt)) in
    let two = two_digits a b (digit_to a 5 (omega arith) al ah) (digit_to b 9 (omega arith) bl bh) in
    let one = one_digit c (digit_to c 9 (omega arith) cl ch) in
    let sum : 10 * (10 * (0 + digit a) + digit b) + digit c ≡ 100 * digit a + 10 * digit b + digit c = omega arith in
    ap (λ (o : Option (List ℕ × List ℕ)). seconds_of o (a ∷ b ∷ 46 ∷ c ∷ [])) (cut-found 46 (a ∷ b ∷ []) (c ∷ []) lacks)
    ∙ (rw (two, one) (ap (λ (n : ℕ). Some n) sum))

pub short : (text : List ℕ) → length text ≡ 4 → get_or text 2 0 ≡ 46 → 48 ≤ get_or text 0 0 → get_or text 0 0 ≤ 53 → 48 ≤ get_or text 1 0 → get_or text 1 0 ≤ 57
    → 48 ≤ get_or text 3 0 → get_or text 3 0 ≤ 57
    → seconds_of (cut 46 text) text ≡ Some (100 * digit (get_or text 0 0) + 10 * digit (get_or text 1 0) + digit (get_or text 3 0))
short [] n dot al ah bl bh cl ch = absurd (omega arith)
short (a ∷ []) n dot al ah bl bh cl ch = absurd (omega arith)
short (a ∷ b ∷ []) n dot al ah bl bh cl ch = absurd (omega arith)
short (a ∷ b ∷ d ∷ []) n dot al ah bl bh cl ch = absurd (omega arith)
short (a ∷ b ∷ d ∷ c ∷ []) n dot al ah bl bh cl ch = rw dot (four_bytes a b c al ah bl bh cl ch)
short (a ∷ b ∷ d ∷ c ∷ e ∷ es) n dot al ah bl bh cl ch = absurd (omega arith)
