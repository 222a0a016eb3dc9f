-- The stretches of an hour, and the tenths of its rows.
use Rattle.std.proofs.Common.{◌≡◌, ℕ, zero, suc, ◌+◌, ◌<◌, ◌≤◌, Bool, true, false, ◌&&◌, leb, ltb, List, [], ◌∷◌, length, get_or, refl, ap, sym, ◌∙◌, inl, inr, arith}
use Rattle.std.specs.List.Sorted.{IsNonDecreasingBy, IsPartitionPoint}
use Rattle.std.proofs.lemmas.Bool.{and_parts, cases_lt, le-ltb, leb-true, leb-false, lt-ltb, ltb-true}
use Rattle.sig_base.specs.declared.values.Row.{Row}
use Rattle.gap_map.specs.declared.stretch.Stretch.{Stretch}
use Rattle.gap_map.specs.Stretches.{AreStretches, known_at}
use Rattle.gap_map.proofs.Following.{known_at_is}
use Rattle.gap_map.proofs.Cutting.{ends_within}
use Rattle.hour_sweep.specs.Hours.{IsHour, point}
use Rattle.arrival_measures.specs.Steps.{no_stretch}

-- stretches end one after another

ends_late : (known : ℕ → Bool) (a b : ℕ) (ss : List Stretch) (j : ℕ) (d : Stretch) → AreStretches known a b ss → j < length ss → a < (get_or ss j d).to
ends_late known a b [] j d h lt = absurd (omega arith)
ends_late known a b (s ∷ ss) zero d h lt = h.1
ends_late known a b (s ∷ ss) (suc j) d h lt = let l = h.1 in let r = ends_late known s.to b ss j d h.3 (omega arith) in omega arith

pub ends_rise : (known : ℕ → Bool) (a b : ℕ) (ss : List Stretch) → AreStretches known a b ss → IsNonDecreasingBy (λ (s : Stretch). s.to) ss
ends_rise known a b [] h i j d le lt = absurd (omega arith)
ends_rise known a b (s ∷ ss) h zero zero d le lt = omega arith
ends_rise known a b (s ∷ ss) h zero (suc j) d le lt = let r = ends_late known s.to b ss j d h.3 (omega arith) in omega arith
ends_rise known a b (s ∷ ss) h (suc i) zero d le lt = absurd (omega arith)
ends_rise known a b (s ∷ ss) h (suc i) (suc j) d le lt = ends_rise known s.to b ss h.3 i j d (omega arith) (omega arith)

-- the first that ends after a tenth has it

record HasTenth (known : ℕ → Bool) (ss : List Stretch) (t i : ℕ) (d : Stretch) : Type 0 where
  within : i < length ss
  is_known : known t ≡ (get_or ss i d).known

has_tenth : (known : ℕ → Bool) (a b t : ℕ) (ss : List Stretch) (i : ℕ) (d : Stretch) → AreStretches known a b ss → a ≤ t → t < b → i ≤ length ss → IsPartitionPoint (λ (s : Stretch). leb s.to t ≡ true) (λ s. leb s.to t ≡ false) ss i → HasTenth known ss t i d
has_tenth known a b t [] i d h lo hi le cut = absurd (omega (arith, h))
has_tenth known a b t (s ∷ ss) zero d h lo hi le cut =
    let after = leb-false s.to t (cut.1 0 s (omega arith) (omega arith)) in
    record { within = omega arith; is_known = h.2 t lo (omega arith) }
has_tenth known a b t (s ∷ ss) (suc i) d h lo hi le cut =
    let before = leb-true s.to t (cut.0 0 s (omega arith) (omega arith)) in
    let more = has_tenth known s.to b t ss i d h.3 (omega arith) hi (omega arith) ((λ k e l r. cut.0 (suc k) e (omega arith) (omega arith)), (λ k e l r. cut.1 (suc k) e (omega arith) (omega arith))) in
    record { within = let w = more.within in omega arith; is_known = more.is_known }

-- none has a tenth after their end

ends_in : (known : ℕ → Bool) (a b : ℕ) (ss : List Stretch) (j : ℕ) (d : Stretch) → AreStretches known a b ss → j < length ss → (get_or ss j d).to ≤ b
ends_in known a b [] j d h lt = absurd (omega arith)
ends_in known a b (s ∷ ss) zero d h lt = ends_within known s.to b ss h.3
ends_in known a b (s ∷ ss) (suc j) d h lt = ends_in known s.to b ss j d h.3 (omega arith)

past_all : (known : ℕ → Bool) (a b t : ℕ) (ss : List Stretch) (i : ℕ) → AreStretches known a b ss → b ≤ t → IsPartitionPoint (λ (s : Stretch). leb s.to t ≡ true) (λ s. leb s.to t ≡ false) ss i → i < length ss → ⊥
past_all known a b t ss i h le cut lt =
    let end = ends_in known a b ss i no_stretch h lt in
    let after = leb-false (get_or ss i no_stretch).to t (cut.1 i no_stretch (omega arith) lt) in
    absurd (omega arith)

past_known : (ss : List Stretch) (i : ℕ) → (i < length ss → ⊥) → (get_or ss i no_stretch).known ≡ false
past_known [] i h = refl
past_known (s ∷ ss) zero h = absurd (h (omega arith))
past_known (s ∷ ss) (suc i) h = past_known ss i (λ lt. h (omega arith))

-- it tells whether the tenth is known

and_yes : (k t : Bool) → t ≡ true → k ≡ (k && t)
and_yes true t e = sym e
and_yes false t e = refl

and_no : (k t : Bool) → t ≡ false → false ≡ (k && t)
and_no true t e = sym e
and_no false t e = refl

pub told_first : (known : ℕ → Bool) (a b t : ℕ) (ss : List Stretch) (i : ℕ) → AreStretches known a b ss → a ≤ t → i ≤ length ss → IsPartitionPoint (λ (s : Stretch). leb s.to t ≡ true) (λ s. leb s.to t ≡ false) ss i → (get_or ss i no_stretch).known ≡ (known t && ltb t b)
told_first known a b t ss i are lo le cut = elim (cases_lt t b) [
  | inl hi ↦ sym (has_tenth known a b t ss i no_stretch are lo hi le cut).is_known ∙ and_yes (known t) (ltb t b) (lt-ltb t b hi)
  | inr past ↦ past_known ss i (λ lt. past_all known a b t ss i are past cut lt) ∙ and_no (known t) (ltb t b) (le-ltb t b past)
]

-- so does the one that has the tenth

in_stretch : (known : ℕ → Bool) (a b t : ℕ) (ss : List Stretch) (i : ℕ) (d : Stretch) → AreStretches known a b ss → i < length ss → (get_or ss i d).from ≤ t → t < (get_or ss i d).to → known t ≡ (get_or ss i d).known
in_stretch known a b t [] i d h lt lo hi = absurd (omega arith)
in_stretch known a b t (s ∷ ss) zero d h lt lo hi = let e = h.0 in h.2 t (omega arith) hi
in_stretch known a b t (s ∷ ss) (suc i) d h lt lo hi = in_stretch known s.to b t ss i d h.3 (omega arith) lo hi

pub told_in : (known : ℕ → Bool) (a b t : ℕ) (ss : List Stretch) (i : ℕ) → AreStretches known a b ss → i < length ss → (get_or ss i no_stretch).from ≤ t → t < (get_or ss i no_stretch).to → (get_or ss i no_stretch).known ≡ (known t && ltb t b)
told_in known a b t ss i are lt lo hi =
    let end = ends_in known a b ss i no_stretch are lt in
    sym (in_stretch known a b t ss i no_stretch are lt lo hi) ∙ and_yes (known t) (ltb t b) (lt-ltb t b (omega arith))

-- a known tenth of an hour is known by its stretches
pub tenth_known : (known : ℕ → Bool) (hour : ℕ) (rows : List Row) (ss own : List Stretch) (t : ℕ) → IsHour known hour rows ss → own ≡ ss → point hour ≤ t → (known t && ltb t (point hour + 36000)) ≡ true → known_at own t ≡ true
tenth_known known hour rows ss own t h same low e =
    let both = and_parts (known t) (ltb t (point hour + 36000)) e in
    ap (λ zs. known_at zs t) same
    ∙ known_at_is known (point hour) (point hour + 36000) t ss h.are_stretches low (ltb-true t (point hour + 36000) both.1)
    ∙ both.0
