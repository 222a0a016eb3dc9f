-- Part by part the tenths of a range are counted.
use Rattle.std.proofs.Common.{suc, zero, ◌≡◌, ap, sym, ◌∙◌, subst, ◌↔◌, inl, inr, ℕ, ◌+◌, ◌-◌, ◌<◌, ◌≤◌, Bool, true, false, IsTrue, nat_le, List, [], ◌∷◌, length, get_or, drop, arith}
use Rattle.std.specs.Prelude.{min, max}
use Rattle.std.specs.List.Sorted.{IsPartitionedBy}
use Rattle.std.proofs.lemmas.Bool.{cases_eq, leb-true, le-leb}
use Rattle.std.proofs.lemmas.List.{drop_more}
use Rattle.detector_state.specs.States.{IsCount}
use Rattle.detector_state.specs.Ranges.{Counts}
use Rattle.detector_state.proofs.StateCounting.{counts_all, counts_none, counts_empty, counts_join, counts_most}
use Rattle.signal_log.specs.Log.{Log}
use Rattle.detector_state.specs.Tells.{IsColourReached}
use Rattle.detector_state.specs.declared.part.Part.{Part}
use Rattle.detector_state.specs.declared.asked.Asked.{Asked}
use Rattle.detector_state.specs.declared.asked.Asked.TheVariants.{Only, May}
use Rattle.detector_state.specs.Hours.{FollowOn, IsMet, Meets, Tells, TellsEach}

-- ---- the order of the parts

later_to : (a b : ℕ) (ps : List Part) (j : ℕ) (d : Part) → FollowOn a b ps → j < length ps → a < (get_or ps j d).to
later_to a b [] j d h lt = absurd (omega arith)
later_to a b (p ∷ ps) zero d h lt = h.1
later_to a b (p ∷ ps) (suc j) d h lt = let x = later_to p.to b ps j d h.2 (omega arith) in let y = h.1 in omega arith

rise_to : (a b : ℕ) (ps : List Part) (i j : ℕ) (d : Part) → FollowOn a b ps → i ≤ j → j < length ps → (get_or ps i d).to ≤ (get_or ps j d).to
rise_to a b [] i j d h le lt = absurd (omega arith)
rise_to a b (p ∷ ps) zero zero d h le lt = omega arith
rise_to a b (p ∷ ps) zero (suc j) d h le lt = let x = later_to p.to b ps j d h.2 (omega arith) in omega arith
rise_to a b (p ∷ ps) (suc i) zero d h le lt = absurd (omega arith)
rise_to a b (p ∷ ps) (suc i) (suc j) d h le lt = rise_to p.to b ps i j d h.2 (omega arith) (omega arith)

pub parted_to : (t a b : ℕ) (ps : List Part) → FollowOn a b ps → IsPartitionedBy (λ p. nat_le p.to t) ps
parted_to t a b ps h i j d le lt e = let x = rise_to a b ps i j d h le lt in let y = leb-true (get_or ps j d).to t e in le-leb (get_or ps i d).to t (omega arith)

pub follows : (log : Log) (i a b : ℕ) (ps : List Part) → TellsEach log i a b ps → FollowOn a b ps
follows log i a b [] h = h
follows log i a b (p ∷ ps) h = (h.0, h.1, follows log i p.to b ps h.3)

-- without the first n, which end at the tenth or before, the parts still have it
pub tells_since : (log : Log) (i n a b from : ℕ) (ps : List Part) → TellsEach log i a b ps → a ≤ from → ((k : ℕ) (d : Part) → k < n → k < length ps → (get_or ps k d).to ≤ from) → (m : ℕ) × (m ≤ from) × TellsEach log i m b (drop n ps)
tells_since log i zero a b from ps h le ended = (a, le, h)
tells_since log i (suc n) a b from [] h le ended = (a, le, h)
tells_since log i (suc n) a b from (p ∷ ps) h le ended = tells_since log i n p.to b from ps h.3 (ended zero p (omega arith) (omega arith)) (λ k d lt len. ended (suc k) d (omega arith) (omega arith))

-- ---- one part

is_on : (log : Log) (i : ℕ) (a : Asked) (mask x : ℕ) → Tells log i x mask → IsMet a mask → Meets log i a x
is_on log i (Only c) mask x t met = λ d r. (met d).0 ((t.colours d).1 r)
is_on log i (May c) mask x t met = (t.colours c).0 met

is_off : (log : Log) (i : ℕ) (a : Asked) (mask x : ℕ) → Tells log i x mask → (IsMet a mask → ⊥) → Meets log i a x → ⊥
is_off log i (Only c) mask x t not sure = not (λ d. (
  (λ h. sure d ((t.colours d).0 h)),
  λ e. let (z, r) = t.some in (t.colours d).1 (subst (λ (y : ℕ). IsColourReached log i y x) (sure z r ∙ sym e) r),
))
is_off log i (May c) mask x t not r = not ((t.colours c).1 r)

-- the range is counted up to tenth at, which the next of the parts has, if it isn't the end
pub record IsCounted (log : Log) (i : ℕ) (f : Asked) (from to b at count : ℕ) (ps : List Part) : Type 0 where
  pub low : from ≤ at
  pub high : at ≤ to
  pub counts : Counts (Meets log i f) from at count
  pub rest : (m : ℕ) × (at < to → m ≤ at) × TellsEach log i m b ps

pub counted_start : (log : Log) (i : ℕ) (f : Asked) (from to b : ℕ) (ps : List Part) → from ≤ to → (m : ℕ) × (m ≤ from) × TellsEach log i m b ps → IsCounted log i f from to b from 0 ps
counted_start log i f from to b ps le (m, low, tells) = record { low = omega arith; high = le; counts = counts_empty (Meets log i f) from; rest = (m, (λ lt. low), tells) }

passed : (log : Log) (i : ℕ) (f : Asked) (from to b at count end more : ℕ) (p : Part) (ps : List Part) → at < to → end ≡ max (min p.to to) at → IsCounted log i f from to b at count (p ∷ ps) → Counts (Meets log i f) at end more → IsCounted log i f from to b end (count + more) ps
passed log i f from to b at count end more p ps lt e h c =
    let (m, low, tells) = h.rest in
    let l = h.low in
    record { low = omega arith; high = omega arith; counts = counts_join (Meets log i f) from at end count more h.counts c; rest = (p.to, (λ le. omega arith), tells.3) }

-- the count fits, since it counts tenths
passed_on : (log : Log) (i : ℕ) (f : Asked) (from to b at count end new : ℕ) (p : Part) (ps : List Part) → at < to → end ≡ max (min p.to to) at → IsMet f p.mask → new ≡ min (count + (end - at)) 4294967295 → end < 4294967296 → IsCounted log i f from to b at count (p ∷ ps) → IsCounted log i f from to b end new ps
passed_on log i f from to b at count end new p ps lt e on sum fit h =
    let (m, low, tells) = h.rest in
    let first = low lt in
    let next = passed log i f from to b at count end (end - at) p ps lt e h (counts_all (Meets log i f) at end (end - at) (omega arith) (λ x l u. is_on log i f p.mask x (tells.2 x (omega arith) (omega arith)) on)) in
    let most = counts_most (Meets log i f) from end (count + (end - at)) next.counts in
    let same : new ≡ count + (end - at) = omega arith in
    rw same next

passed_off : (log : Log) (i : ℕ) (f : Asked) (from to b at count end : ℕ) (p : Part) (ps : List Part) → at < to → end ≡ max (min p.to to) at → (IsMet f p.mask → ⊥) → IsCounted log i f from to b at count (p ∷ ps) → IsCounted log i f from to b end count ps
passed_off log i f from to b at count end p ps lt e off h =
    let (m, low, tells) = h.rest in
    let first = low lt in
    let none : count + 0 ≡ count = omega arith in
    subst (λ (n : ℕ). IsCounted log i f from to b end n ps) none (passed log i f from to b at count end 0 p ps lt e h (counts_none (Meets log i f) at end (end - at) (omega arith) (λ x l u. is_off log i f p.mask x (tells.2 x (omega arith) (omega arith)) off)))

-- ---- the loop

next_part : (log : Log) (n0 : ℕ) (f : Asked) (from to b at count : ℕ) (ps : List Part) (i : ℕ) (p : Part) → i < length ps → p ≡ get_or ps i p → IsCounted log n0 f from to b at count (drop i ps) → IsCounted log n0 f from to b at count (p ∷ drop (i + 1) ps)
next_part log n0 f from to b at count ps i p lt own h = subst (λ (qs : List Part). IsCounted log n0 f from to b at count qs) (drop_more ps i p lt ∙ ap (λ (q : Part). q ∷ drop (i + 1) ps) (sym own)) h

pub counted_on : (log : Log) (n0 : ℕ) (f : Asked) (from to b at count low end new : ℕ) (on : Bool) (ps : List Part) (i : ℕ) (p : Part) → i < length ps → p ≡ get_or ps i p → at < to → low ≡ min p.to to → end ≡ max low at → (IsTrue on ↔ IsMet f p.mask) → on ≡ true → new ≡ min (count + (end - at)) 4294967295 → end < 4294967296 → IsCounted log n0 f from to b at count (drop i ps) → IsCounted log n0 f from to b end new (drop (i + 1) ps)
counted_on log n0 f from to b at count low end new on ps i p lt own le el ee eo t sum fit h = passed_on log n0 f from to b at count end new p (drop (i + 1) ps) le (ee ∙ ap (λ x. max x at) el) (eo.0 t) sum fit (next_part log n0 f from to b at count ps i p lt own h)

pub counted_off : (log : Log) (n0 : ℕ) (f : Asked) (from to b at count low end : ℕ) (on : Bool) (ps : List Part) (i : ℕ) (p : Part) → i < length ps → p ≡ get_or ps i p → at < to → low ≡ min p.to to → end ≡ max low at → (IsTrue on ↔ IsMet f p.mask) → on ≡ false → IsCounted log n0 f from to b at count (drop i ps) → IsCounted log n0 f from to b end count (drop (i + 1) ps)
counted_off log n0 f from to b at count low end on ps i p lt own le el ee eo t h = passed_off log n0 f from to b at count end p (drop (i + 1) ps) le (ee ∙ ap (λ x. max x at) el) (λ met. let is = eo.1 met in let bad : true ≡ false = sym is ∙ t in absurd (cc)) (next_part log n0 f from to b at count ps i p lt own h)

module _ (P : ℕ → Type 0) where
  count_found : (n a k : ℕ) → IsCount P a n k → (0 < k) ↔ ((x : ℕ) × (a ≤ x) × (x < a + n) × P x)
  unfolding IsCount
  count_found zero a k e = ((λ lt. absurd (omega arith)), λ (x, l, u, p). absurd (omega arith))
  count_found (suc n) a k h = elim h [
    | inl (here, (j, e, r)) ↦ ((λ lt. (a, omega arith, omega arith, here)), λ found. omega arith)
    | inr (none, r) ↦
        let rest = count_found n (a + 1) k r in (
          (λ lt. let (x, l, u, p) = rest.0 lt in (x, omega arith, omega arith, p)),
          λ (x, l, u, p). elim (cases_eq x a) [
            | inl same ↦ absurd (none (subst (λ (y : ℕ). P y) same p))
            | inr ne ↦ rest.1 (x, omega arith, omega arith, p)
          ],
        )
  ]

  -- some are counted where there is one
  pub counts_found : (a b k : ℕ) → Counts P a b k → (0 < k) ↔ ((x : ℕ) × (a ≤ x) × (x < b) × P x)
  counts_found a b k (n, e, c) =
      let both = count_found n a k c in
      ((λ lt. let (x, l, u, p) = both.0 lt in (x, l, omega arith, p)), λ (x, l, u, p). both.1 (x, l, omega arith, p))
