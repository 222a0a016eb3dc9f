-- Ranges outside an hour are no part of its cut.
use Rattle.std.proofs.Common.{suc, zero, ◌≡◌, ◌∙◌, sym, ap, refl, ◌⊎◌, inl, inr, ℕ, ℤ, pos, ◌<◌, ◌≤◌, ◌<ℤ◌, ◌≤ℤ◌, true, false, int_le, int_lt, List, [], ◌∷◌, ◌++◌, length, take, drop, get_or, arith}
use Rattle.std.proofs.lemmas.Int.{ints, clamps}
use Rattle.std.specs.List.Sorted.{IsPartitionedBy}
use Rattle.sig_base.proofs.Common.{le_said}
use Rattle.span_set.specs.declared.set.Span.{Span}
use Rattle.span_set.specs.Spans.{Above}
use Rattle.span_set.proofs.Sets.{not_over}
use Rattle.gap_map.specs.Cuts.{stretch, clip, known_part, cut_of}
use Rattle.gap_map.proofs.Cutting.{nat_cases, clip_is}

-- a range that ends before the tenths, or begins after them
skip : (a b : ℕ) (s : Span) (ss : List Span) → a ≤ b → (s.to ≤ℤ pos a) ⊎ (pos b ≤ℤ s.from) → cut_of a b (s ∷ ss) ≡ cut_of a b ss
skip a b s ss h o =
    let ef = clip_is s.from a b in
    let et = clip_is s.to a b in
    elim (nat_cases (clip s.from a b) (clip s.to a b)) as (λ _. cut_of a b (s ∷ ss) ≡ cut_of a b ss) [
      | inl x ↦ absurd (elim o [ inl p ↦ (let q = x.1 in omega (arith, ints, clamps)) | inr p ↦ (let q = x.1 in omega (arith, ints, clamps)) ])
      | inr x ↦ rw x.0 refl
    ]

-- the first n ranges, all of which end before the tenths
pub skip_front : (n a b : ℕ) (ss : List Span) → a ≤ b → ((k : ℕ) (d : Span) → k < n → (get_or ss k d).to ≤ℤ pos a) → cut_of a b (drop n ss) ≡ cut_of a b ss
skip_front zero a b ss h e = refl
skip_front (suc n) a b [] h e = refl
skip_front (suc n) a b (s ∷ ss) h e = skip_front n a b ss h (λ k d lt. e (suc k) d (omega arith)) ∙ sym (skip a b s ss h (inl (e zero s (omega arith))))

-- all ranges begin after the tenths
skip_all : (a b : ℕ) (ss : List Span) → a ≤ b → ((k : ℕ) (d : Span) → k < length ss → pos b ≤ℤ (get_or ss k d).from) → known_part a b ≡ cut_of a b ss
skip_all a b [] h e = refl
skip_all a b (s ∷ ss) h e = skip_all a b ss h (λ k d lt. e (suc k) d (omega arith)) ∙ sym (skip a b s ss h (inr (e zero s (omega arith))))

-- the ranges from the n-th on, all of which begin after the tenths
pub skip_back : (n a b : ℕ) (ss : List Span) → a ≤ b → ((k : ℕ) (d : Span) → n ≤ k → k < length ss → pos b ≤ℤ (get_or ss k d).from) → cut_of a b (take n ss) ≡ cut_of a b ss
skip_back zero a b ss h e = skip_all a b ss h (λ k d lt. e k d (omega arith) lt)
skip_back (suc n) a b [] h e = refl
skip_back (suc n) a b (s ∷ ss) h e =
    let ef = clip_is s.from a b in
    let et = clip_is s.to a b in
    let le : clip s.to a b ≤ b = omega (arith, ints, clamps) in
    let next : (c : ℕ) → c ≤ b → cut_of c b (take n ss) ≡ cut_of c b ss = λ c l. skip_back n c b ss l (λ k d g lt. e (suc k) d (omega arith) (omega arith)) in
    elim (nat_cases (clip s.from a b) (clip s.to a b)) as (λ _. cut_of a b (s ∷ take n ss) ≡ cut_of a b (s ∷ ss)) [
      | inl x ↦ rw x.0 (ap (λ ws. known_part a (clip s.from a b) ++ (stretch (clip s.from a b) (clip s.to a b) false ∷ ws)) (next (clip s.to a b) le))
      | inr x ↦ rw x.0 (next a h)
    ]

-- ---- the order of ranges

later : (low : ℤ) (ss : List Span) (j : ℕ) (d : Span) → Above low ss → j < length ss → (low <ℤ (get_or ss j d).from) × (low <ℤ (get_or ss j d).to)
later low [] j d p lt = absurd (omega arith)
later low (s ∷ ss) zero d p lt = (p.0, omega (arith, ints))
later low (s ∷ ss) (suc j) d p lt = let (x, y) = later s.to ss j d p.3 (omega arith) in (omega (arith, ints), omega (arith, ints))

rise_to : (low : ℤ) (ss : List Span) (i j : ℕ) (d : Span) → Above low ss → i ≤ j → j < length ss → (get_or ss i d).to ≤ℤ (get_or ss j d).to
rise_to low [] i j d p le lt = absurd (omega arith)
rise_to low (s ∷ ss) zero zero d p le lt = omega (arith, ints)
rise_to low (s ∷ ss) zero (suc j) d p le lt = let x = later s.to ss j d p.3 (omega arith) in omega (arith, ints)
rise_to low (s ∷ ss) (suc i) zero d p le lt = absurd (omega arith)
rise_to low (s ∷ ss) (suc i) (suc j) d p le lt = rise_to s.to ss i j d p.3 (omega arith) (omega arith)

rise_from : (low : ℤ) (ss : List Span) (i j : ℕ) (d : Span) → Above low ss → i ≤ j → j < length ss → (get_or ss i d).from ≤ℤ (get_or ss j d).from
rise_from low [] i j d p le lt = absurd (omega arith)
rise_from low (s ∷ ss) zero zero d p le lt = omega (arith, ints)
rise_from low (s ∷ ss) zero (suc j) d p le lt = let x = later s.to ss j d p.3 (omega arith) in let y = p.1 in omega (arith, ints)
rise_from low (s ∷ ss) (suc i) zero d p le lt = absurd (omega arith)
rise_from low (s ∷ ss) (suc i) (suc j) d p le lt = rise_from s.to ss i j d p.3 (omega arith) (omega arith)

pub is_le : (a b : ℤ) → a ≤ℤ b → int_le a b ≡ true
is_le a b e = grind (arith, ints)

pub lt_is : (a b : ℤ) → int_lt a b ≡ true → a <ℤ b
lt_is a b e = grind (arith, ints)

pub lt_not : (a b : ℤ) → int_lt a b ≡ false → b ≤ℤ a
lt_not a b e = grind (arith, ints)

pub parted_to : (t low : ℤ) (ss : List Span) → Above low ss → IsPartitionedBy (λ s. int_le s.to t) ss
parted_to t low ss p i j d le lt e = let a = rise_to low ss i j d p le lt in let b = le_said (get_or ss j d).to t e in is_le (get_or ss i d).to t (omega (arith, ints))

pub parted_from : (t low : ℤ) (ss : List Span) → Above low ss → IsPartitionedBy (λ s. int_lt s.from t) ss
parted_from t low ss p i j d le lt e = let a = rise_from low ss i j d p le lt in let b = lt_is (get_or ss j d).from t e in not_over (get_or ss i d).from t (omega (arith, ints))

-- the ranges from the n-th on are in order too
pub drop_above : (n : ℕ) (low : ℤ) (ss : List Span) → Above low ss → (x : ℤ) × Above x (drop n ss)
drop_above zero low ss p = (low, p)
drop_above (suc n) low [] p = (low, tt)
drop_above (suc n) low (s ∷ ss) p = drop_above n s.to ss p.3
