-- The cut by blanked ranges is the one by what is known.
use Rattle.std.proofs.Common.{◌≡◌, ◌∙◌, sym, ap, refl, ◌⊎◌, inl, inr, ℕ, ℤ, pos, negsuc, ◌<◌, ◌≤◌, ◌<ℤ◌, ◌≤ℤ◌, Bool, true, false, not, ◌&&◌, ◌||◌, nat_lt, int_lt, int_le, List, [], ◌∷◌, ◌++◌, arith, subst}
use Rattle.std.specs.Int.{int_max, int_min}
use Rattle.std.proofs.lemmas.Int.{ints, clamps}
use Rattle.std.proofs.lemmas.Bool.Decides.{nat_tests}
use Rattle.std.proofs.lemmas.Bool.{false≢true}
use Rattle.sig_base.proofs.Common.{is_less}
use Rattle.span_set.proofs.Sets.{int_cases}
use Rattle.span_set.specs.declared.set.Span.{Span}
use Rattle.span_set.specs.Spans.{Above, AreRanges, is_member}
use Rattle.gap_map.specs.declared.stretch.Stretch.{Stretch}
use Rattle.gap_map.specs.Stretches.{AreStretches, BeginsOther, Alternate, IsCut, known_in}
use Rattle.gap_map.specs.Cuts.{stretch, clip, known_part, cut_of}

-- a test of two numbers, and what it says
pub nat_cases : (a b : ℕ) → ((nat_lt a b ≡ true) × (a < b)) ⊎ ((nat_lt a b ≡ false) × (b ≤ a))
nat_cases a b = grind (arith, nat_tests)

pub clip_is : (e : ℤ) (a b : ℕ) → pos (clip e a b) ≡ int_min (int_max e (pos a)) (pos b)
clip_is (pos n) a b = omega (arith, ints, clamps)
clip_is (negsuc n) a b = omega (arith, ints, clamps)

-- a tenth of the first range, and one that isn't
here : (s : Span) (ss : List Span) (e : ℤ) → s.from ≤ℤ e → e <ℤ s.to → is_member (s ∷ ss) e ≡ true
here s ss e a b = let p : int_le s.from e ≡ true = grind (arith, ints) in let q : int_lt e s.to ≡ true = grind (arith, ints) in rw (p, q) refl

before : (s : Span) (ss : List Span) (e : ℤ) → e <ℤ s.from → is_member (s ∷ ss) e ≡ is_member ss e
before s ss e a = let p : int_le s.from e ≡ false = grind (arith, ints) in rw p refl

after : (s : Span) (ss : List Span) (e : ℤ) → s.to ≤ℤ e → is_member (s ∷ ss) e ≡ is_member ss e
after s ss e a = let q : int_lt e s.to ≡ false = grind (arith, ints) in elim (int_le s.from e) as (λ v. (v && int_lt e s.to) || is_member ss e ≡ is_member ss e) [ true ↦ rw q refl | false ↦ refl ]

none_below : (low : ℤ) (ss : List Span) (e : ℤ) → Above low ss → e ≤ℤ low → is_member ss e ≡ false
none_below low [] e p h = refl
none_below low (s ∷ ss) e p h = before s ss e (omega (arith, ints)) ∙ none_below s.to ss e p.3 (omega (arith, ints))

known_then : (a f t : ℕ) (rest : List Stretch) → Alternate (stretch f t false ∷ rest) → Alternate (known_part a f ++ (stretch f t false ∷ rest))
known_then a f t rest h = elim (nat_cases a f) as (λ _. Alternate (known_part a f ++ (stretch f t false ∷ rest))) [
  | inl x ↦ rw x.0 (false≢true, h)
  | inr x ↦ rw x.0 h
]

some_known : (known : ℕ → Bool) (a f b : ℕ) (rest : List Stretch) → a ≤ f → ((t : ℕ) → a ≤ t → t < f → known t ≡ true) → AreStretches known f b rest → AreStretches known a b (known_part a f ++ rest)
some_known known a f b rest h k r = elim (nat_cases a f) as (λ _. AreStretches known a b (known_part a f ++ rest)) [
  | inl x ↦ rw x.0 (refl, x.1, k, r)
  | inr x ↦ let e : a ≡ f = omega arith in rw x.0 (subst (λ n. AreStretches known n b rest) (sym e) r)
]

-- the cut by ranges, where those are what isn't known
pub cut_stretches : (known : ℕ → Bool) (low : ℤ) (a b : ℕ) (ss : List Span) → a ≤ b → Above low ss → ((t : ℕ) → a ≤ t → t < b → known t ≡ not (is_member ss (pos t))) → AreStretches known a b (cut_of a b ss)
cut_stretches known low a b [] h p k = elim (nat_cases a b) as (λ _. AreStretches known a b (known_part a b)) [
  | inl x ↦ rw x.0 (refl, x.1, k, refl)
  | inr x ↦ rw x.0 (omega arith)
]
cut_stretches known low a b (s ∷ ss) h p k =
    let ef = clip_is s.from a b in
    let et = clip_is s.to a b in
    elim (nat_cases (clip s.from a b) (clip s.to a b)) as (λ _. AreStretches known a b (cut_of a b (s ∷ ss))) [
      | inl x ↦ rw x.0 (some_known known a (clip s.from a b) b _ (omega (arith, ints, clamps))
          (λ n u v. k n u (omega (arith, ints, clamps)) ∙ ap not (before s ss (pos n) (omega (arith, ints, clamps)) ∙ none_below s.to ss (pos n) p.3 (omega (arith, ints, clamps)))) (
            refl,
            x.1,
            λ n u v. k n (omega (arith, ints, clamps)) (omega (arith, ints, clamps)) ∙ ap not (here s ss (pos n) (omega (arith, ints, clamps)) (omega (arith, ints, clamps))),
            cut_stretches known s.to (clip s.to a b) b ss (omega (arith, ints, clamps)) p.3 (λ n u v. k n (omega (arith, ints, clamps)) v ∙ ap not (after s ss (pos n) (omega (arith, ints, clamps)))),
          ))
      | inr x ↦ rw x.0 (cut_stretches known s.to a b ss h p.3 (λ n u v. k n u v ∙ ap not (elim (int_cases (pos n) s.from) [
        | inl y ↦ before s ss (pos n) y.1
        | inr y ↦ after s ss (pos n) (omega (arith, ints, clamps))
      ])))
    ]

apart : true ≡ false → ⊥
apart e = false≢true (sym e)

-- a cut begins with a known stretch, where all ranges lie after its first tenth
begins_known : (low : ℤ) (a b : ℕ) (ss : List Span) → a ≤ b → pos a ≤ℤ low → Above low ss → BeginsOther false (cut_of a b ss)
begins_known low a b [] h l p = elim (nat_cases a b) as (λ _. BeginsOther false (known_part a b)) [
  | inl x ↦ rw x.0 apart
  | inr x ↦ rw x.0 tt
]
begins_known low a b (s ∷ ss) h l p =
    let ef = clip_is s.from a b in
    let et = clip_is s.to a b in
    elim (nat_cases (clip s.from a b) (clip s.to a b)) as (λ _. BeginsOther false (cut_of a b (s ∷ ss))) [
      | inl x ↦ let q : a < clip s.from a b = omega (arith, ints, clamps) in rw (x.0, is_less a (clip s.from a b) q) apart
      | inr x ↦ rw x.0 (begins_known s.to a b ss h (omega (arith, ints)) p.3)
    ]

pub cut_alternates : (low : ℤ) (a b : ℕ) (ss : List Span) → a ≤ b → Above low ss → Alternate (cut_of a b ss)
cut_alternates low a b [] h p = elim (nat_cases a b) as (λ _. Alternate (known_part a b)) [
  | inl x ↦ rw x.0 (tt, tt)
  | inr x ↦ rw x.0 tt
]
cut_alternates low a b (s ∷ ss) h p =
    let ef = clip_is s.from a b in
    let et = clip_is s.to a b in
    elim (nat_cases (clip s.from a b) (clip s.to a b)) as (λ _. Alternate (cut_of a b (s ∷ ss))) [
      | inl x ↦ rw x.0 (known_then a (clip s.from a b) (clip s.to a b) (cut_of (clip s.to a b) b ss) (begins_known s.to (clip s.to a b) b ss (omega (arith, ints, clamps)) (omega (arith, ints, clamps)) p.3, cut_alternates s.to (clip s.to a b) b ss (omega (arith, ints, clamps)) p.3))
      | inr x ↦ rw x.0 (cut_alternates s.to a b ss h p.3)
    ]

-- an hour that isn't held is one unknown stretch
pub all_unknown : (ss : List Span) (a b : ℕ) → a < b → IsCut (known_in false ss) a b (stretch a b false ∷ [])
all_unknown ss a b h = record { stretches = (refl, h, λ t x y. refl, refl); alternate = (tt, tt) }

-- one that is held is cut by what is blanked
pub held_cut : (ss : List Span) (a b : ℕ) → a ≤ b → AreRanges ss → IsCut (known_in true ss) a b (cut_of a b ss)
held_cut ss a b h p = record { stretches = cut_stretches (known_in true ss) _ a b ss h p (λ t x y. refl); alternate = cut_alternates _ a b ss h p }

pub ends_within : (known : ℕ → Bool) (a b : ℕ) (ss : List Stretch) → AreStretches known a b ss → a ≤ b
ends_within known a b [] e = omega arith
ends_within known a b (s ∷ ss) (e, l, k, r) = let i = ends_within known s.to b ss r in omega arith

-- a cut by what is known is one by any test that agrees with it
pub stretches_same : (f g : ℕ → Bool) (a b : ℕ) (ss : List Stretch) → ((t : ℕ) → a ≤ t → t < b → f t ≡ g t) → AreStretches f a b ss → AreStretches g a b ss
stretches_same f g a b [] h c = c
stretches_same f g a b (s ∷ ss) h (e, l, k, r) =
    let i = ends_within f s.to b ss r in
    (e, l, λ t x y. sym (h t x (omega arith)) ∙ k t x y, stretches_same f g s.to b ss (λ t x y. h t (omega arith) y) r)

pub cut_same : (f g : ℕ → Bool) (a b : ℕ) (ss : List Stretch) → ((t : ℕ) → a ≤ t → t < b → f t ≡ g t) → IsCut f a b ss → IsCut g a b ss
cut_same f g a b ss h c = record { stretches = stretches_same f g a b ss h c.stretches; alternate = c.alternate }

stretch_equal : (x y : Stretch) → x.from ≡ y.from → x.to ≡ y.to → x.known ≡ y.known → x ≡ y
stretch_equal x y a b c = ap (λ n. stretch n x.to x.known) a ∙ (ap (λ n. stretch y.from n x.known) b ∙ ap (λ k. stretch y.from y.to k) c)

-- the first stretch of a cut doesn't end before that of another
not_sooner : (known : ℕ → Bool) (a b : ℕ) (x y : Stretch) (xs ys : List Stretch) → AreStretches known a b (x ∷ xs) → Alternate (x ∷ xs) → AreStretches known a b (y ∷ ys) → y.to ≤ x.to
not_sooner known a b x y [] ys (e, l, k, r) n (e2, l2, k2, r2) = let i = ends_within known y.to b ys r2 in omega arith
not_sooner known a b x y (z ∷ zs) ys (e, l, k, r) (n, m) (e2, l2, k2, r2) = elim (nat_cases x.to y.to) [
  | inl q ↦
      let k3 : known x.to ≡ z.known = r.2 x.to (omega arith) r.1 in
      let k4 : known x.to ≡ y.known = k2 x.to (omega arith) q.1 in
      let k5 : known a ≡ x.known = k a (omega arith) l in
      let k6 : known a ≡ y.known = k2 a (omega arith) l2 in
      absurd (n (sym k3 ∙ (k4 ∙ (sym k6 ∙ k5))))
  | inr q ↦ q.1
]

-- there is no other cut
pub only_cut : (known : ℕ → Bool) (a b : ℕ) (xs ys : List Stretch) → AreStretches known a b xs → Alternate xs → AreStretches known a b ys → Alternate ys → xs ≡ ys
only_cut known a b [] [] p n q m = refl
only_cut known a b [] (y ∷ ys) p n (e, l, k, r) m = let i = ends_within known y.to b ys r in absurd (omega arith)
only_cut known a b (x ∷ xs) [] (e, l, k, r) n q m = let i = ends_within known x.to b xs r in absurd (omega arith)
only_cut known a b (x ∷ xs) (y ∷ ys) (e, l, k, r) n (e2, l2, k2, r2) m =
    let u = not_sooner known a b x y xs ys (e, l, k, r) n (e2, l2, k2, r2) in
    let v = not_sooner known a b y x ys xs (e2, l2, k2, r2) m (e, l, k, r) in
    let t : x.to ≡ y.to = omega arith in
    let k5 : known a ≡ x.known = k a (omega arith) l in
    let k6 : known a ≡ y.known = k2 a (omega arith) l2 in
    let same : x ≡ y = stretch_equal x y (e ∙ sym e2) t (sym k5 ∙ k6) in
    let rest : xs ≡ ys = only_cut known x.to b xs ys r n.1 (subst (λ w. AreStretches known w b ys) (sym t) r2) m.1 in
    ap (λ w. w ∷ xs) same ∙ ap (λ ws. y ∷ ws) rest

pub only : (known : ℕ → Bool) (a b : ℕ) (ys : List Stretch) → IsCut known a b ys → (ss : List Stretch) → IsCut known a b ss → ss ≡ ys
only known a b ys p ss q = only_cut known a b ss ys q.stretches q.alternate p.stretches p.alternate
