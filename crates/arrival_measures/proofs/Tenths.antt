-- Counts of tenths that pass a test.
use Rattle.std.proofs.Common.{◌≡◌, ℕ, zero, suc, ◌+◌, ◌-◌, ◌<◌, ◌≤◌, Bool, true, false, cond, refl, ap, ◌∙◌, arith, List, ◌∷◌, [], ◌++◌}
use Rattle.std.specs.Prelude.{All}
use Rattle.sig_base.specs.declared.values.Row.{Row}
use Rattle.arrival_measures.specs.Green.{tenths_with, shows_green, green_tenths_in}
use Rattle.arrival_measures.proofs.Within.{shows_on, shows_off}

pub tenths_within : (test : ℕ → Bool) (t n : ℕ) → tenths_with test t n ≤ n
unfolding tenths_with
tenths_within test t zero = omega arith
tenths_within test t (suc n) =
    let ih = tenths_within test (t + 1) n in
    elim (test t) as (λ v. cond v 1 0 + tenths_with test (t + 1) n ≤ suc n) [ true ↦ omega arith | false ↦ omega arith ]

pub tenths_same : (p q : ℕ → Bool) (t n : ℕ) → ((s : ℕ) → t ≤ s → s < t + n → p s ≡ q s) → tenths_with p t n ≡ tenths_with q t n
unfolding tenths_with
tenths_same p q t zero h = refl
tenths_same p q t (suc n) h =
    let ih = tenths_same p q (t + 1) n (λ s lo up. h s (omega arith) (omega arith)) in
    ap (λ v. cond v 1 0 + tenths_with p (t + 1) n) (h t (omega arith) (omega arith)) ∙ ap (λ m. cond (q t) 1 0 + m) ih

tenths_all : (t n : ℕ) → tenths_with (λ s. true) t n ≡ n
unfolding tenths_with
tenths_all t zero = refl
tenths_all t (suc n) = let ih = tenths_all (t + 1) n in omega arith

tenths_none : (t n : ℕ) → tenths_with (λ s. false) t n ≡ 0
unfolding tenths_with
tenths_none t zero = refl
tenths_none t (suc n) = let ih = tenths_none (t + 1) n in omega arith

tenths_like : (v : Bool) (t n : ℕ) → tenths_with (λ s. v) t n ≡ cond v n 0
tenths_like true t n = tenths_all t n
tenths_like false t n = tenths_none t n

tenths_cut : (test : ℕ → Bool) (t m n k : ℕ) → k ≡ m + n → tenths_with test t k ≡ tenths_with test t m + tenths_with test (t + m) n
unfolding tenths_with
tenths_cut test t zero n k e =
    let same : k ≡ n = omega arith in
    let here : t ≡ t + 0 = omega arith in
    let all = ap (λ j. tenths_with test t j) same in
    let on = ap (λ s. tenths_with test s n) here in
    omega (arith, all, on)
tenths_cut test t (suc m) n zero e = absurd (omega arith)
tenths_cut test t (suc m) n (suc k) e =
    let ih = tenths_cut test (t + 1) m n k (omega arith) in
    let same : t + 1 + m ≡ t + suc m = omega arith in
    let moved = ap (λ s. tenths_with test s n) same in
    omega (arith, ih, moved)

-- up to tenth v, where the rows end at tenth u
pub tenths_on : (p a u v : ℕ) (xs : List Row) → a ≤ u → u ≤ v → All (λ x. x.at ≤ u) xs → green_tenths_in p a v xs ≡ green_tenths_in p a u xs + cond (shows_green p a xs u) (v - u) 0
tenths_on p a u v xs le up h =
    let show : ℕ → Bool = shows_green p a xs in
    let sum : v - a ≡ (u - a) + (v - u) = omega arith in
    let start : a + (u - a) ≡ u = omega arith in
    tenths_cut show a (u - a) (v - u) (v - a) sum
    ∙ ap (λ n. tenths_with show a (u - a) + n)
    (ap (λ s. tenths_with show s (v - u)) start
    ∙ tenths_same show (λ s. show u) u (v - u) (λ s lo lt. shows_on p a u s xs lo h)
    ∙ tenths_like (show u) u (v - u))

pub tenths_off : (p a : ℕ) (xs : List Row) (x : Row) → a ≤ x.at → green_tenths_in p a x.at (xs ++ x ∷ []) ≡ green_tenths_in p a x.at xs
tenths_off p a xs x le = tenths_same (shows_green p a (xs ++ x ∷ [])) (shows_green p a xs) a (x.at - a) (λ s lo lt. shows_off p a s xs x (omega arith))
