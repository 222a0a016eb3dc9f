-- Tenths counted one by one, and stretch by stretch.
use Rattle.std.proofs.Common.{◌≡◌, ℕ, zero, suc, ◌+◌, ◌-◌, ◌*◌, ◌<◌, ◌≤◌, Bool, true, false, List, [], ◌∷◌, refl, arith, if◌then◌else◌}
use Rattle.std.specs.List.{All, sum_by}
use Rattle.std.proofs.lemmas.List.Sums.{sum_by-cons}
use Rattle.gap_map.specs.declared.stretch.Stretch.{Stretch}
use Rattle.gap_map.specs.Stretches.{AreStretches, IsCut}
use Rattle.gap_map.proofs.Cutting.{ends_within}
use Rattle.hour_work.specs.Numbers.{count_from, count_in_hour}
use Rattle.hour_sweep.specs.Sums.{one_if}
use Rattle.hour_work.specs.Known.{known_len}
use Rattle.arrival_measures.specs.Green.{tenths_with}

-- two tests that agree on the tenths count the same
pub count_same : (p q : ℕ → Bool) (from n : ℕ) → ((t : ℕ) → from ≤ t → t < from + n → p t ≡ q t) → count_from p from n ≡ count_from q from n
unfolding tenths_with
count_same p q from zero e = refl
count_same p q from (suc n) e =
    let here : p from ≡ q from = e from (omega arith) (omega arith) in
    let rest = count_same p q (from + 1) n (λ t low high. e t (omega arith) (omega arith)) in
    rw (here, rest) refl

-- first some tenths, then the others
pub count_parts : (p : ℕ → Bool) (from m n : ℕ) → count_from p from (m + n) ≡ count_from p from m + count_from p (from + m) n
unfolding tenths_with
count_parts p from zero n = let e : from + 0 ≡ from = omega arith in let z : 0 + n ≡ n = omega arith in rw (e, z) (omega arith)
count_parts p from (suc m) n =
    let i = count_parts p (from + 1) m n in
    let e : suc m + n ≡ suc (m + n) = omega arith in
    let s : (from + 1) + m ≡ from + suc m = omega arith in
    let j : count_from p (from + 1) (m + n) ≡ count_from p (from + 1) m + count_from p (from + suc m) n = rw s at i in
    rw e (omega (arith, j))

pub count_le : (p : ℕ → Bool) (from n : ℕ) → count_from p from n ≤ n
unfolding tenths_with
count_le p from zero = omega arith
count_le p from (suc n) =
    let i = count_le p (from + 1) n in
    elim (p from) as (λ b. one_if b + count_from p (from + 1) n ≤ suc n) [ true ↦ omega arith | false ↦ omega arith ]

pub count_all : (p : ℕ → Bool) (from n : ℕ) (v : Bool) → ((t : ℕ) → from ≤ t → t < from + n → p t ≡ v) → count_from p from n ≡ (if v then n else 0)
unfolding tenths_with
count_all p from zero true e = refl
count_all p from zero false e = refl
count_all p from (suc n) true e =
    let here : p from ≡ true = e from (omega arith) (omega arith) in
    let rest = count_all p (from + 1) n true (λ t low high. e t (omega arith) (omega arith)) in
    rw (here, rest) (omega arith)
count_all p from (suc n) false e =
    let here : p from ≡ false = e from (omega arith) (omega arith) in
    let rest = count_all p (from + 1) n false (λ t low high. e t (omega arith) (omega arith)) in
    rw (here, rest) refl

pub stretches_order : (known : ℕ → Bool) (a b : ℕ) (ss : List Stretch) → AreStretches known a b ss → All (λ s. s.from ≤ s.to) ss
stretches_order known a b [] e k d lt = absurd (omega arith)
stretches_order known a b (s ∷ ss) p zero d lt = let e = p.0 in let l = p.1 in omega arith
stretches_order known a b (s ∷ ss) p (suc k) d lt = stretches_order known s.to b ss p.3 k d (omega arith)

-- the known stretches have the known tenths
pub stretches_count : (known : ℕ → Bool) (a b n : ℕ) (ss : List Stretch) → AreStretches known a b ss → a + n ≡ b → sum_by known_len ss ≡ count_from known a n
unfolding tenths_with
stretches_count known a b n [] e m = let z : n ≡ 0 = omega arith in rw z refl
stretches_count known a b n (s ∷ ss) p m =
    let e : s.from ≡ a = p.0 in
    let up : a < s.to = p.1 in
    let rise = ends_within known s.to b ss p.3 in
    let rest = stretches_count known s.to b (b - s.to) ss p.3 (omega arith) in
    let first = count_all known a (s.to - a) s.known (λ t low high. p.2 t low (omega arith)) in
    let cut : n ≡ (s.to - a) + (b - s.to) = omega arith in
    let next : a + (s.to - a) ≡ s.to = omega arith in
    let parts = count_parts known a (s.to - a) (b - s.to) in
    let len : known_len s ≡ count_from known a (s.to - a) = rw (first, e) refl in
    rw (cut, parts, next, sum_by-cons, len, rest) refl

-- the stretches of an hour have its known tenths
pub hour_counted : (known : ℕ → Bool) (hour : ℕ) (ss : List Stretch) → IsCut known (36000 * hour) (36000 * hour + 36000) ss → sum_by known_len ss ≡ count_in_hour known hour
hour_counted known hour ss p = stretches_count known (36000 * hour) (36000 * hour + 36000) 36000 ss p.stretches refl
