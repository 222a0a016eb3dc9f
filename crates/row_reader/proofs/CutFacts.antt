-- A text around a byte that it lacks before it.
use Rattle.std.proofs.Common.{◌≡◌, ◌+◌, ℕ, suc, Bool, true, false, List, [], ◌∷◌, ◌++◌, length, take, drop, get_or, refl, sym, ap, ◌∙◌, arith, add-one, if◌then◌else◌}
use Rattle.std.specs.Prelude.{◌==◌, ◌&&◌, ◌≢◌, Option, Some, None, option_map, unwrap_or, position, nat_lt, nat_le}
use Rattle.std.specs.List.{position_or_len}
use Rattle.std.proofs.lemmas.Bool.Decides.{nat_tests}
use Rattle.std.proofs.lemmas.List.{length-append, take-append-drop}
use Rattle.std.proofs.lemmas.List.Quantifiers.{position-Some}
use Rattle.std.proofs.Math.Seq.{drop-cons, take-append_seam, drop-append-add}
use Rattle.sig_base.proofs.Common.{and_first, and_last}
use Rattle.row_reader.specs.Number.{is_digit, all_digits, number_from, number_of}
use Rattle.row_reader.specs.Stamp.{cut}

-- no byte of the text is this one
abbrev pub Lacks : ℕ → List ℕ → Type 0
Lacks mark [] = Unit {0}
Lacks mark (b ∷ bs) = (b ≢ mark) × Lacks mark bs

pub lacks-append : (mark : ℕ) (a b : List ℕ) → Lacks mark a → Lacks mark b → Lacks mark (a ++ b)
lacks-append mark [] b h k = k
lacks-append mark (x ∷ a) b h k = (h.0, lacks-append mark a b h.1 k)

abbrev place : ℕ → List ℕ → ℕ
place mark text = position_or_len (λ b. b == mark) text

place-here : (mark : ℕ) (a b : List ℕ) → Lacks mark a → place mark (a ++ mark ∷ b) ≡ length a
place-here mark [] b h = let e : (mark == mark) ≡ true = grind (arith, nat_tests) in rw e refl
place-here mark (x ∷ a) b h =
    let e : (x == mark) ≡ false = grind (arith, nat_tests, h.0) in
    rw e (omega (arith, place-here mark a b h.1))

place-none : (mark : ℕ) (a : List ℕ) → Lacks mark a → place mark a ≡ length a
place-none mark [] h = refl
place-none mark (x ∷ a) h =
    let e : (x == mark) ≡ false = grind (arith, nat_tests, h.0) in
    rw e (omega (arith, place-none mark a h.1))

below-more : (a b n : ℕ) → n ≡ a + suc b → nat_lt a n ≡ true
below-more a b n e = grind (arith, nat_tests)

not-below : (a : ℕ) → nat_lt a a ≡ false
not-below a = grind (arith, nat_tests)

pub cut-found : (mark : ℕ) (a b : List ℕ) → Lacks mark a → cut mark (a ++ mark ∷ b) ≡ Some (a, b)
cut-found mark a b h =
    let e : place mark (a ++ mark ∷ b) ≡ length a = place-here mark a b h in
    let t : nat_lt (length a) (length (a ++ mark ∷ b)) ≡ true = below-more (length a) (length b) _ (length-append a (mark ∷ b)) in
    let p : position (λ x. x == mark) (a ++ mark ∷ b) ≡ Some (length a) = rw (e, t) refl in
    ap (λ (o : Option ℕ). option_map (λ i. (take i (a ++ mark ∷ b), drop (i + 1) (a ++ mark ∷ b))) o) p
    ∙ (rw (take-append_seam a (mark ∷ b), drop-append-add a (mark ∷ b) 1) refl)

pub cut-none : (mark : ℕ) (a : List ℕ) → Lacks mark a → cut mark a ≡ None
cut-none mark a h =
    let e : place mark a ≡ length a = place-none mark a h in
    let p : position (λ x. x == mark) a ≡ None = rw (e, not-below (length a)) refl in
    ap (λ (o : Option ℕ). option_map (λ i. (take i a, drop (i + 1) a)) o) p

pub cut-splits : (mark : ℕ) (t a b : List ℕ) → cut mark t ≡ Some (a, b) → t ≡ a ++ mark ∷ b
cut-splits mark t a b e = go (position (λ x. x == mark) t) refl e
  where
    go : (o : Option ℕ) → position (λ x. x == mark) t ≡ o → option_map {U = List ℕ × List ℕ} (λ i. (take i t, drop (i + 1) t)) o ≡ Some (a, b) → t ≡ a ++ mark ∷ b
    go None q f = cc
    go (Some i) q f =
        let k = position-Some (λ x. x == mark) t i 0 q in
        let here : get_or t i 0 ≡ mark = grind (arith, nat_tests, k.1) in
        let s : drop i t ≡ get_or t i 0 ∷ drop (i + 1) t = rw (add-one i) (drop-cons t i 0 k.0) in
        let front : take i t ≡ a = ap (λ (o : Option (List ℕ × List ℕ)). (unwrap_or o (([]), ([]))).0) f in
        let back : drop (i + 1) t ≡ b = ap (λ (o : Option (List ℕ × List ℕ)). (unwrap_or o (([]), ([]))).1) f in
        sym (take-append-drop i t) ∙ (rw (s, here, front, back) refl)

-- ---- digits

no-digit : (b mark : ℕ) → is_digit b ≡ true → is_digit mark ≡ false → b ≢ mark
no-digit b mark t f e = let q : true ≡ false = sym t ∙ ap is_digit e ∙ f in cc

digits-lack : (mark : ℕ) (t : List ℕ) → is_digit mark ≡ false → all_digits t ≡ true → Lacks mark t
digits-lack mark [] f h = tt
digits-lack mark (b ∷ bs) f h =
    (no-digit b mark (and_first (is_digit b) (all_digits bs) h) f, digits-lack mark bs f (and_last (is_digit b) (all_digits bs) h))

if-some : (b : Bool) (x n : ℕ) → (if b then Some x else None) ≡ Some n → b ≡ true
if-some true x n e = refl
if-some false x n e = cc

pub number-lacks : (mark least most limit n : ℕ) (t : List ℕ) → is_digit mark ≡ false → number_of least most limit t ≡ Some n → Lacks mark t
number-lacks mark least most limit n t f e =
    let all = if-some (nat_le least (length t) && nat_le (length t) most && all_digits t && nat_le (number_from 0 t) limit) (number_from 0 t) n e in
    digits-lack mark t f (and_last _ _ (and_first _ _ all))
