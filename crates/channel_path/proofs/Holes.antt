-- The gaps of a leg as the holes of a run.
use Rattle.std.proofs.Common.{suc, zero, ◌≡◌, refl, inl, inr, ◌⊎◌, ◌↔◌, ℕ, ◌+◌, ◌<◌, ◌≤◌, ◌^◌, ℤ, pos, negsuc, ◌<ℤ◌, ◌≤ℤ◌, List, [], ◌∷◌, ◌++◌, length, take, drop, get_or, arith, Option}
use Rattle.std.proofs.lemmas.Int.{ints}
use Rattle.std.proofs.lemmas.List.{take_more, drop_all}
use Rattle.colour_machine.specs.Rules.{Rules}
use Rattle.span_set.specs.declared.set.Span.{Span}
use Rattle.span_set.specs.Spans.{Member, Above}
use Rattle.span_set.specs.Changes.{span, AllEnd}
use Rattle.span_set.proofs.Sets.{above_trans, member_above}
use Rattle.reach.specs.Runs.{State}
use Rattle.reach.specs.Ahead.{Admits}
use Rattle.reach.specs.Holes.{AreHoles}
use Rattle.reach.specs.Last.{BeforeGaps, AreLast, StaysOrLeaves}
use Rattle.reach.proofs.Crossing.{hole_above}
use Rattle.reach.proofs.Filling.{hole_bounds}
use Rattle.reach.proofs.Later.{then_iff}
use Rattle.reach.proofs.Returning.{places_gaps}
use Rattle.channel_path.specs.declared.moves.Move.{Move}
use Rattle.channel_path.specs.declared.moves.Move.TheVariants.{Letter, Gap}
use Rattle.channel_path.specs.Walks.{limit_before, InOrder}
use Rattle.channel_path.specs.Runs.{AreGapsOf}
use Rattle.channel_path.specs.Legs.{IsLeg, IsGap, with_hole}

-- one hole more
gaps_push : (hs : List Span) (xs : List Move) (f t : ℕ) → AreGapsOf hs xs → AreGapsOf (hs ++ span (pos f) (pos t) ∷ []) (xs ++ Gap f t ∷ [])
gaps_push [] [] f t g = (refl, refl, tt)
gaps_push [] (x ∷ xs) f t g = absurd g
gaps_push (h ∷ hs) [] f t g = absurd g
gaps_push (h ∷ hs) (Letter at l r ∷ xs) f t g = absurd g
gaps_push (h ∷ hs) (Gap a b ∷ xs) f t (p, q, g) = (p, q, gaps_push hs xs f t g)

gap_push : (hs : List Span) (xs : List Move) (x : Move) → IsGap x → AreGapsOf hs xs → AreGapsOf (with_hole x hs) (xs ++ x ∷ [])
gap_push hs xs (Letter at l r) k g = absurd k
gap_push hs xs (Gap f t) k g = gaps_push hs xs f t g

pub gaps_more : (hs : List Span) (xs : List Move) (i : ℕ) (d : Move) → i < length xs → IsGap (get_or xs i d) → AreGapsOf hs (take i xs) → AreGapsOf (with_hole (get_or xs i d) hs) (take (i + 1) xs)
gaps_more hs xs i d lt k g = rw (take_more xs i d lt) (gap_push hs (take i xs) (get_or xs i d) k g)

pub gaps_length : (hs : List Span) (xs : List Move) → AreGapsOf hs xs → length hs ≡ length xs
gaps_length [] [] g = refl
gaps_length [] (x ∷ xs) g = absurd g
gaps_length (h ∷ hs) [] g = absurd g
gaps_length (h ∷ hs) (Letter at l r ∷ xs) g = absurd g
gaps_length (h ∷ hs) (Gap f t ∷ xs) (p, q, g) = let e = gaps_length hs xs g in omega arith

pub gaps_drop : (k : ℕ) (hs : List Span) (xs : List Move) → AreGapsOf hs xs → AreGapsOf (drop k hs) (drop k xs)
gaps_drop zero hs xs g = g
gaps_drop (suc k) [] [] g = tt
gaps_drop (suc k) [] (x ∷ xs) g = absurd g
gaps_drop (suc k) (h ∷ hs) [] g = absurd g
gaps_drop (suc k) (h ∷ hs) (Letter at l r ∷ xs) g = absurd g
gaps_drop (suc k) (h ∷ hs) (Gap f t ∷ xs) (p, q, g) = gaps_drop k hs xs g

-- each end is at the tenth or before, after one more at the end too
pub end_more : (t : ℤ) (hs : List Span) (h : Span) → AllEnd t hs → h.to ≤ℤ t → AllEnd t (hs ++ h ∷ [])
end_more t [] h e le = (le, tt)
end_more t (x ∷ hs) h e le = (e.0, end_more t hs h e.1 le)

ends_before : (t y : ℤ) (hs : List Span) → AllEnd t hs → Member hs y → y <ℤ t
ends_before t y [] e m = absurd m
ends_before t y (h ∷ hs) e m = elim m [ inl w ↦ let a = e.0 in let b = w.1 in omega (arith, ints) | inr r ↦ ends_before t y hs e.1 r ]

-- the moves begin after the tenth
abbrev BeginAfter : ℤ → List Move → Type 0
BeginAfter y [] = Unit {0}
BeginAfter y (x ∷ xs) = y <ℤ pos (limit_before x)

begin_low : (xs : List Move) → BeginAfter (negsuc 0) xs
begin_low [] = tt
begin_low (x ∷ xs) = omega (arith, ints)

leg_tail : (x : Move) (xs : List Move) → IsLeg (x ∷ xs) → IsLeg xs
leg_tail x xs leg k d lt = let e : suc k + 1 ≡ suc (k + 1) = omega arith in rw e at (leg (suc k) d (omega arith))

begin_next : (f t : ℕ) (xs : List Move) → IsLeg (Gap f t ∷ xs) → BeginAfter (pos t) xs
begin_next f t [] leg = tt
begin_next f t (Letter at l r ∷ xs) leg = absurd (leg 0 (Letter 0 0 0) (omega arith))
begin_next f t (Gap g u ∷ xs) leg = let lt : t < g = leg 0 (Letter 0 0 0) (omega arith) in omega (arith, ints)

-- the holes of a leg are ranges that don't touch
leg_above : (m : Rules) (low : ℕ) (y : ℤ) (hs : List Span) (xs : List Move) → AreGapsOf hs xs → InOrder m low xs → IsLeg xs → BeginAfter y xs → AllEnd (pos (2 ^ 32)) hs → Above y hs
leg_above m low y [] xs g o leg b e = tt
leg_above m low y (h ∷ hs) [] g o leg b e = absurd g
leg_above m low y (h ∷ hs) (Letter at l r ∷ xs) g o leg b e = absurd g
leg_above m low y (h ∷ hs) (Gap f t ∷ xs) (p, q, g) o leg b e =
    let lt = o.1 in
    let end = e.0 in
    let begin : y <ℤ h.from = rw p b in
    let some : h.from <ℤ h.to = omega (arith, ints) in
    let high : h.to ≤ℤ pos (2 ^ 40 + 1) = omega (arith, ints) in
    (begin, some, high, rw q (leg_above m t (pos t) hs xs g o.2 (leg_tail (Gap f t) xs leg) (begin_next f t xs leg) e.1))

pub leg_holes : (m : Rules) (low : ℕ) (hs : List Span) (xs : List Move) → AreGapsOf hs xs → InOrder m low xs → IsLeg xs → AllEnd (pos (2 ^ 32)) hs → AreHoles (pos 0) (pos (2 ^ 32)) hs
leg_holes m low hs xs g o leg e =
    let up = leg_above m low (negsuc 0) hs xs g o leg (begin_low xs) e in (
      above_trans (negsuc (2 ^ 40)) (negsuc 0) hs (omega (arith, ints)) up,
      λ y k. let a = member_above (negsuc 0) y hs up k in (omega (arith, ints), ends_before (pos (2 ^ 32)) y hs e k),
    )

-- the holes before and after a place between them
above_take : (k : ℕ) (low : ℤ) (hs : List Span) → Above low hs → Above low (take k hs)
above_take zero low hs a = tt
above_take (suc k) low [] a = tt
above_take (suc k) low (h ∷ hs) a = (a.0, a.1, a.2, above_take k h.to hs a.3)

above_drop : (k : ℕ) (low : ℤ) (hs : List Span) → Above low hs → Above low (drop k hs)
above_drop zero low hs a = a
above_drop (suc k) low [] a = tt
above_drop (suc k) low (h ∷ hs) a = let b = a.0 in let c = a.1 in above_trans low h.to (drop k hs) (omega (arith, ints)) (above_drop k h.to hs a.3)

member_parts : (k : ℕ) (hs : List Span) (y : ℤ) → Member hs y ↔ (Member (take k hs) y ⊎ Member (drop k hs) y)
member_parts zero hs y = (inr, λ m. elim m [ inl w ↦ absurd w | inr r ↦ r ])
member_parts (suc k) [] y = (inr, λ m. elim m [ inl w ↦ absurd w | inr r ↦ r ])
member_parts (suc k) (h ∷ hs) y =
    let rest = member_parts k hs y in (
      λ m. elim m [ inl w ↦ inl (inl w) | inr r ↦ elim (rest.0 r) [ inl a ↦ inl (inr a) | inr b ↦ inr b ] ],
      λ m. elim m [ inl a ↦ elim a [ inl w ↦ inl w | inr r ↦ inr (rest.1 (inl r)) ] | inr b ↦ inr (rest.1 (inr b)) ],
    )

take_early : (k : ℕ) (low : ℤ) (hs : List Span) (d : Span) (y : ℤ) → Above low hs → k < length hs → Member (take k hs) y → y <ℤ (get_or hs k d).from
take_early zero low hs d y a lt m = absurd m
take_early (suc k) low [] d y a lt m = absurd m
take_early (suc k) low (h ∷ hs) d y a lt m = elim m [
  | inl w ↦ let b = (hole_above h.to hs k d a.3 (omega arith)).0 in let e = w.1 in omega (arith, ints)
  | inr r ↦ take_early k h.to hs d y a.3 (omega arith) r
]

drop_late : (k : ℕ) (low : ℤ) (hs : List Span) (d : Span) (y : ℤ) → Above low hs → k < length hs → Member (drop k hs) y → (get_or hs k d).from ≤ℤ y
drop_late k low [] d y a lt m = absurd (omega arith)
drop_late zero low (h ∷ hs) d y a lt m = elim m [ inl w ↦ w.0 | inr r ↦ let b = member_above h.to y hs a.3 r in let c = a.1 in omega (arith, ints) ]
drop_late (suc k) low (h ∷ hs) d y a lt m = drop_late k h.to hs d y a.3 (omega arith) m

-- what may stay or leave at the beginning of a hole is what it and those after it lead on
pub hole_ahead : (m : Rules) (latest here last : List (Option ℤ)) (hs : List Span) (f t : ℤ) (k : ℕ) (d : Span) (x : ℤ) → AreHoles f t hs → k < length hs → x ≡ (get_or hs k d).from → AreLast m latest hs f t last → ((s : State) → Admits here s ↔ StaysOrLeaves m latest last x s) → (s : State) → Admits here s ↔ BeforeGaps m latest (drop k hs) s
hole_ahead m latest here last hs f t k d x holes lt at are step s =
    let b = hole_bounds hs f t k d holes lt in
    let low : f ≤ℤ x = rw at b.0 in
    let order = b.1 in
    let end = b.2 in
    let high : x ≤ℤ t = omega (arith, ints) in
    let before : AreHoles f x (take k hs) = (above_take k (negsuc (2 ^ 40)) hs holes.0, λ y m. ((holes.1 y ((member_parts k hs y).1 (inl m))).0, rw at (take_early k (negsuc (2 ^ 40)) hs d y holes.0 lt m))) in
    let after : AreHoles x t (drop k hs) = (above_drop k (negsuc (2 ^ 40)) hs holes.0, λ y m. (rw at (drop_late k (negsuc (2 ^ 40)) hs d y holes.0 lt m), (holes.1 y ((member_parts k hs y).1 (inr m))).1)) in
    let law = places_gaps m [] latest hs (take k hs) (drop k hs) f x t before after low high (member_parts k hs) in
    let here_is = are s x low high in
    then_iff (step s) (then_iff (here_is.1, here_is.0) (law.1 s))

-- after the last hole
pub gaps_none : (m : Rules) (latest : List (Option ℤ)) (hs : List Span) (n : ℕ) → length hs ≤ n → (s : State) → Admits latest s ↔ BeforeGaps m latest (drop n hs) s
gaps_none m latest hs n h s = rw (drop_all n hs h) (λ a. (s, refl, a), λ (u, e, a). rw (← e) a)
