-- How the lines of numbers follow from one another.
use Rattle.std.proofs.Common.{◌≡◌, ◌<◌, ◌≤◌, ◌+◌, ◌-◌, ◌++◌, ◌∷◌, [], ℕ, List, Bool, true, false, suc, zero, length, refl, arith}
use Rattle.report_text.specs.Measures.{each_line, numbers_from}

numbers_next : (has : ℕ → Bool) (n : ℕ) → n < 17 → has n ≡ true → numbers_from has n ≡ n ∷ numbers_from has (n + 1)
unfolding numbers_from
numbers_next has n h e =
    let k : 17 - n ≡ suc (17 - (n + 1)) = omega arith in
    rw (k, e) refl

numbers_skip : (has : ℕ → Bool) (n : ℕ) → n < 17 → has n ≡ false → numbers_from has n ≡ numbers_from has (n + 1)
unfolding numbers_from
numbers_skip has n h e =
    let k : 17 - n ≡ suc (17 - (n + 1)) = omega arith in
    rw (k, e) refl

-- there is none of this number
pub lines_skip : {A : Type 0} (line : ℕ → A → List ℕ) (has : ℕ → Bool) (n : ℕ) (sums : List A) → n < 17 → has n ≡ false
    → each_line line (numbers_from has n) sums ≡ each_line line (numbers_from has (n + 1)) sums
lines_skip line has n sums h e = rw (numbers_skip has n h e) refl

-- the line of this number, and those of the numbers after it
pub lines_next : {A : Type 0} (line : ℕ → A → List ℕ) (has : ℕ → Bool) (n : ℕ) (s : A) (sums rest : List A) → n < 17 → has n ≡ true → sums ≡ s ∷ rest
    → each_line line (numbers_from has n) sums ≡ line n s ++ each_line line (numbers_from has (n + 1)) rest
unfolding each_line
lines_next line has n s sums rest h e q = rw (numbers_next has n h e, q) refl

-- no sums are left
no_sums : {A : Type 0} (line : ℕ → A → List ℕ) (numbers : List ℕ) → each_line line numbers [] ≡ []
unfolding each_line
no_sums line [] = refl
no_sums line (n ∷ ns) = refl

pub lines_out : {A : Type 0} (line : ℕ → A → List ℕ) (numbers : List ℕ) (sums : List A) → length sums ≡ 0 → each_line line numbers sums ≡ []
lines_out line numbers [] h = no_sums line numbers
lines_out line numbers (s ∷ ss) h = absurd (omega (h, arith))

-- no numbers are left
pub lines_end : {A : Type 0} (line : ℕ → A → List ℕ) (has : ℕ → Bool) (n : ℕ) (sums : List A) → 17 ≤ n → each_line line (numbers_from has n) sums ≡ []
unfolding each_line numbers_from
lines_end line has n sums h = let k : 17 - n ≡ zero = omega arith in rw k refl
