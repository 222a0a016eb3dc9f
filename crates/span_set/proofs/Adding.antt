-- The ranges with one more added.
use Rattle.std.proofs.Common.{zero, suc, drop, drop-cons, add-one, get_or, length, ◌<◌, ◌≤◌, ◌+◌, ◌≡◌, refl, ap, ◌⊎◌, inl, inr, ℕ, ℤ, pos, negsuc, ◌^◌, ◌+ℤ◌, ◌<ℤ◌, ◌≤ℤ◌, List, [], ◌∷◌, ◌++◌, arith, ◌↔◌, take}
use Rattle.std.specs.Int.{int_max, int_min}
use Rattle.std.proofs.lemmas.Int.{ints, clamps}
use Rattle.span_set.specs.declared.set.Span.{Span}
use Rattle.span_set.specs.Changes.{span, AllEnd, join, add_to}
use Rattle.span_set.specs.Spans.{Within, Member, Above, AreRanges}
use Rattle.span_set.proofs.Sets.{int_cases, over, not_over, above_trans}

-- the first of the ranges doesn't end before the tenth
abbrev NotEnded : ℤ → List Span → Type 0
NotEnded f [] = Unit {0}
NotEnded f (s ∷ ss) = f ≤ℤ s.to

not_ended : (f : ℤ) (s : Span) (ss : List Span) → s.from <ℤ s.to → Above s.to ss → NotEnded (int_min f s.from) ss
not_ended f s [] h p = tt
not_ended f s (x ∷ xs) h p = omega (arith, ints, clamps)

join_above : (low f t : ℤ) (ss : List Span) → low <ℤ f → f <ℤ t → t ≤ℤ pos (2 ^ 40 + 1) → Above low ss → Above low (join f t ss)
join_above low f t [] a b c p = (a, b, c, tt)
join_above low f t (s ∷ ss) a b c p =
    elim (int_cases t s.from) as (λ _. Above low (join f t (s ∷ ss))) [
      | inl y ↦ rw y.0 (a, b, c, (y.1, p.1, p.2, p.3))
      | inr y ↦ rw y.0 (join_above low (int_min f s.from) (int_max t s.to) ss (omega (arith, ints, clamps)) (omega (arith, ints, clamps)) (omega (arith, ints, clamps)) (above_trans low s.to ss (omega (arith, ints)) p.3))
    ]

join_members : (low f t e : ℤ) (ss : List Span) → f <ℤ t → NotEnded f ss → Above low ss → Member (join f t ss) e ↔ (Member ss e ⊎ Within (span f t) e)
join_members low f t e [] h n p = grind arith
join_members low f t e (s ∷ ss) h n p =
    elim (int_cases t s.from) as (λ _. Member (join f t (s ∷ ss)) e ↔ (Member (s ∷ ss) e ⊎ Within (span f t) e)) [
      | inl y ↦ rw y.0 (grind arith)
      | inr y ↦ rw y.0 (let i = join_members s.to (int_min f s.from) (int_max t s.to) e ss (omega (arith, ints, clamps)) (not_ended f s ss p.1 p.3) p.3 in grind (arith, ints, clamps))
    ]

pub add_above : (low f t : ℤ) (ss : List Span) → low <ℤ f → f <ℤ t → t ≤ℤ pos (2 ^ 40) → Above low ss → Above low (add_to f t ss)
add_above low f t [] a b c p = (a, b, omega (arith, ints), tt)
add_above low f t (s ∷ ss) a b c p =
    elim (int_cases s.to f) as (λ _. Above low (add_to f t (s ∷ ss))) [
      | inl x ↦ rw x.0 (p.0, p.1, p.2, add_above s.to f t ss x.1 b c p.3)
      | inr x ↦ rw x.0 (join_above low f t (s ∷ ss) a b (omega (arith, ints)) p)
    ]

members_above : (low f t e : ℤ) (ss : List Span) → f <ℤ t → Above low ss → Member (add_to f t ss) e ↔ (Member ss e ⊎ Within (span f t) e)
members_above low f t e [] h p = grind arith
members_above low f t e (s ∷ ss) h p =
    elim (int_cases s.to f) as (λ _. Member (add_to f t (s ∷ ss)) e ↔ (Member (s ∷ ss) e ⊎ Within (span f t) e)) [
      | inl x ↦ rw x.0 (let i = members_above s.to f t e ss h p.3 in grind arith)
      | inr x ↦ rw x.0 (join_members low f t e (s ∷ ss) h x.1 p)
    ]

pub add_members : (f t e : ℤ) (ss : List Span) → f <ℤ t → AreRanges ss → Member (add_to f t ss) e ↔ (Member ss e ⊎ Within (span f t) e)
add_members f t e ss h p = members_above (negsuc (2 ^ 40)) f t e ss h p

-- ranges that end before the new one are passed over, and the rest is joined with it
pub add_split : (f t g : ℤ) (ss : List Span) (n : ℕ) → (g +ℤ pos 1) ≡ f → n ≤ length ss → AllEnd g (take n ss) → (n < length ss → (d : Span) → g <ℤ (get_or ss n d).to) → add_to f t ss ≡ take n ss ++ join f t (drop n ss)
add_split f t g [] zero q w a b = refl
add_split f t g [] (suc n) q w a b = absurd (omega arith)
add_split f t g (s ∷ ss) zero q w a b = let k : g <ℤ s.to = b (omega arith) s in rw (over s.to f (omega (arith, ints))) refl
add_split f t g (s ∷ ss) (suc n) q w a b = let k : s.to ≤ℤ g = a.0 in rw (not_over s.to f (omega (arith, ints))) (ap (λ r. s ∷ r) (add_split f t g ss n q (omega arith) a.1 (λ h d. b (omega arith) d)))

pub join_more : (f t : ℤ) (ss : List Span) (n : ℕ) (d : Span) → n < length ss → (get_or ss n d).from ≤ℤ t → join f t (drop n ss) ≡ join (int_min f (get_or ss n d).from) (int_max t (get_or ss n d).to) (drop (n + 1) ss)
join_more f t ss n d h a = rw (add-one, drop-cons ss n d h, over t (get_or ss n d).from a) refl

-- a range after all others
pub add_end : (f t g : ℤ) (ss : List Span) → (g +ℤ pos 1) ≡ f → AllEnd g ss → add_to f t ss ≡ ss ++ span f t ∷ []
add_end f t g [] q a = refl
add_end f t g (s ∷ ss) q a = let k : s.to ≤ℤ g = a.0 in rw (not_over s.to f (omega (arith, ints))) (ap (λ r. s ∷ r) (add_end f t g ss q a.1))

-- all end where the last does
pub last_ends : (low at : ℤ) (ss : List Span) (n : ℕ) (d : Span) → Above low ss → length ss ≡ n + 1 → (get_or ss n d).to ≤ℤ at → AllEnd at ss
last_ends low at [] n d p size h = tt
last_ends low at (s ∷ []) zero d p size h = (h, tt)
last_ends low at (s ∷ []) (suc n) d p size h = absurd (omega arith)
last_ends low at (s ∷ x ∷ xs) zero d p size h = absurd (omega arith)
last_ends low at (s ∷ x ∷ xs) (suc n) d p size h =
    let rest : AllEnd at (x ∷ xs) = last_ends s.to at (x ∷ xs) n d p.3 (omega arith) h in
    (let a = rest.0 in let b = p.3.0 in let c = p.3.1 in omega (arith, ints), rest)
