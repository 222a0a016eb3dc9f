-- Spaces at the end of a text.
use Rattle.std.proofs.Common.{◌≡◌, ◌<◌, ◌+◌, ◌-◌, ℕ, Bool, true, false, List, [], ◌∷◌, ◌++◌, length, take, get_or, refl, sym, ap, ◌∙◌, arith, if◌then◌else◌}
use Rattle.std.specs.Prelude.{◌==◌, ◌≢◌}
use Rattle.std.proofs.lemmas.Bool.Decides.{nat_tests}
use Rattle.std.proofs.lemmas.List.{take_more, take_all}
use Rattle.row_reader.specs.Trim.{trim_end, before_end, trim_front, trimmed}

before_end-some : (x b : ℕ) (xs : List ℕ) → before_end x (xs ++ b ∷ []) ≡ x ∷ (xs ++ b ∷ [])
before_end-some x b [] = refl
before_end-some x b (y ∷ ys) = refl

pick : (x : ℕ) (xs ys zs : List ℕ) (p : Bool) → before_end x ys ≡ zs → before_end x (if p then xs else ys) ≡ (if p then before_end x xs else zs)
pick x xs ys zs true e = refl
pick x xs ys zs false e = e

trim_end-more : (xs : List ℕ) (b : ℕ) → trim_end (xs ++ b ∷ []) ≡ (if b == 32 then trim_end xs else xs ++ b ∷ [])
trim_end-more [] b = refl
trim_end-more (x ∷ xs) b =
    ap (before_end x) (trim_end-more xs b) ∙ pick x (trim_end xs) (xs ++ b ∷ []) (x ∷ (xs ++ b ∷ [])) (b == 32) (before_end-some x b xs)

-- a text is all but its last byte, and that byte
split_last : (text : List ℕ) → 0 < length text → text ≡ take (length text - 1) text ++ get_or text (length text - 1) 0 ∷ []
split_last text h =
    let e : length text - 1 + 1 ≡ length text = omega arith in
    let m = rw e at (take_more text (length text - 1) 0 (omega arith)) in
    sym (take_all (length text) text (omega arith)) ∙ m

pub trim_end-space : (text : List ℕ) → 0 < length text → get_or text (length text - 1) 0 ≡ 32
    → trim_end text ≡ trim_end (take (length text - 1) text)
trim_end-space text h f =
    let e : (get_or text (length text - 1) 0 == 32) ≡ true = grind (arith, nat_tests) in
    ap trim_end (split_last text h) ∙ trim_end-more (take (length text - 1) text) (get_or text (length text - 1) 0) ∙ (rw e refl)

pub trim_end-stays : (text : List ℕ) → 0 < length text → get_or text (length text - 1) 0 ≢ 32 → trim_end text ≡ text
trim_end-stays text h f =
    let e : (get_or text (length text - 1) 0 == 32) ≡ false = grind (arith, nat_tests) in
    ap trim_end (split_last text h) ∙ trim_end-more (take (length text - 1) text) (get_or text (length text - 1) 0) ∙ (rw e refl) ∙ sym (split_last text h)

trim_front-stays : (text : List ℕ) → get_or text 0 0 ≢ 32 → trim_front text ≡ text
trim_front-stays [] h = refl
trim_front-stays (b ∷ bs) h = let e : (b == 32) ≡ false = grind (arith, nat_tests, h) in rw e refl

-- a text that neither begins nor ends with a space
pub trimmed-stays : (text : List ℕ) → get_or text 0 0 ≢ 32 → get_or text (length text - 1) 0 ≢ 32 → trimmed text ≡ text
trimmed-stays [] h k = refl
trimmed-stays (b ∷ bs) h k = ap trim_end (trim_front-stays (b ∷ bs) h) ∙ trim_end-stays (b ∷ bs) (omega arith) k
