-- A way back through a gap.
use Rattle.std.proofs.Common.{◌≡◌, refl, sym, ◌∙◌, subst, ap, ◌⊎◌, inl, inr, ◌↔◌, ℕ, ◌+◌, ◌<◌, ◌≤◌, ℤ, pos, ◌+ℤ◌, ◌<ℤ◌, ◌≤ℤ◌, List, [], ◌∷◌, ◌++◌, length, get_or, reverse, length-append, append_assoc, arith}
use Rattle.std.proofs.lemmas.Int.{ints}
use Rattle.std.proofs.lemmas.List.{get_or_default, reverse-append, append-nil}
use Rattle.span_set.specs.declared.set.Span.{Span}
use Rattle.span_set.specs.Spans.{Member}
use Rattle.colour_machine.specs.Rules.{Rules, IsMachine}
use Rattle.gap_ways.specs.declared.states.Fill.{Fill}
use Rattle.gap_ways.specs.declared.states.Entered.{Entered}
use Rattle.gap_ways.specs.declared.edges.Edge.{Edge}
use Rattle.reach.specs.Runs.{State, Step, Steps, Run, Fills}
use Rattle.reach.specs.Past.{Holds, AfterGap}
use Rattle.reach.specs.Sets.{at}
use Rattle.reach.specs.Leaving.{HasOld}
use Rattle.reach.specs.Arrivals.{IsArrival, IsFirst, IsLeave, StandsIn}
use Rattle.reach.proofs.Arriving.{within_start, within_step, within_since, within_next, fills_later}
use Rattle.gap_ways.specs.Ways.{Way, state_of, Added, AfterEarly, IsEarly}
use Rattle.gap_ways.specs.Rounds.{NoEdge, IsEdge, AreRounds, InRounds, InGap}
use Rattle.colour_machine.proofs.Ways.{goes_stays}
use Rattle.reach.proofs.States.{in_sets}

pub first_round : (m : Rules) (f t : ℤ) (dep b : List ℤ) (old new : List (List ℤ)) (here : Entered) → old ≡ new ++ b ∷ [] → InRounds m f t dep (reverse old) here → InRounds m f t dep (b ∷ reverse new) here
first_round m f t dep b old new here e r = let q : reverse old ≡ b ∷ reverse new = ap (λ (z : List (List ℤ)). reverse z) e ∙ reverse-append new (b ∷ []) in subst (λ (z : List (List ℤ)). InRounds m f t dep z here) q r

pub skip_round : (m : Rules) (f t : ℤ) (dep b : List ℤ) (rest : List (List ℤ)) (here : Entered) → at b here.colour ≤ℤ here.entry → InRounds m f t dep (b ∷ rest) here → InRounds m f t dep rest here
skip_round m f t dep b rest here le (a, (w, n, r), l) = (b, r, le)

pub round_bounds : (m : Rules) (f t : ℤ) (dep b : List ℤ) (rest : List (List ℤ)) (here : Entered) → InRounds m f t dep (b ∷ rest) here → (d : ℕ) → d < 16 → (f ≤ℤ at b d) × (at b d ≤ℤ t)
round_bounds m f t dep b rest here (a, (w, n, r), l) = w

leave_same : (dep arr : ℤ) (floor : ℕ) (x y : ℤ) → IsLeave dep arr floor x → IsLeave dep arr floor y → x ≡ y
leave_same dep arr floor x y (a, b, p) (c, d, q) = elim p [
  | inl e ↦ elim q [ inl k ↦ omega (arith, ints) | inr k ↦ omega (arith, ints) ]
  | inr e ↦ elim q [ inl k ↦ omega (arith, ints) | inr k ↦ omega (arith, ints) ]
]

-- some colour may be left for that of the state
pub some_edge : (m : Rules) (f t : ℤ) (dep b leave : List ℤ) (rest : List (List ℤ)) (here : Entered) → here.colour < 16 → InRounds m f t dep (b ∷ rest) here → here.entry <ℤ at b here.colour → ((c : ℕ) → c < m.colours → IsLeave (at dep c) (at b c) (m.floor c) (at leave c)) → NoEdge m leave here.colour here.entry m.colours → ⊥
some_edge m f t dep b leave rest here lt (a, (w, n, r), l) late leaves none = elim (n here.colour lt) [
  | inl e ↦ omega (arith, ints)
  | inr (c, x, cl, ch, lv, e) ↦ let s = leave_same (at dep c) (at b c) (m.floor c) x (at leave c) lv (leaves c cl) in none c cl ch (omega (arith, ints))
]

-- the state at the arrival from which the edge leads
pub edge_rounds : (m : Rules) (f t : ℤ) (dep b : List ℤ) (rest : List (List ℤ)) (here new : Entered) → new.entry ≡ at b new.colour → InRounds m f t dep (b ∷ rest) here → InRounds m f t dep rest new
edge_rounds m f t dep b rest here new e (a, (w, n, r), l) = (b, r, omega (arith, ints))

-- from there the colour is old enough
pub edge_left : (m : Rules) (dep b leave : List ℤ) (here : Entered) (e : Edge) → IsEdge m leave here.colour here.entry e → IsLeave (at dep e.colour) (at b e.colour) (m.floor e.colour) (at leave e.colour) → here.entry <ℤ at dep e.colour → (at b e.colour +ℤ pos (m.floor e.colour)) ≤ℤ here.entry
edge_left m dep b leave here e edge (p, q, k) late = let l = edge.left in elim k [ inl x ↦ absurd (omega (arith, ints)) | inr x ↦ omega (arith, ints) ]

pub edge_step : (m : Rules) (leave : List ℤ) (here s : Entered) (e : Edge) (l : ℕ) → IsEdge m leave here.colour here.entry e → s.colour ≡ e.colour → l ≡ e.letter → (s.entry +ℤ pos (m.floor e.colour)) ≤ℤ here.entry → Step m here.entry (state_of s) l (state_of here)
edge_step m leave here s e l edge c k o = let g = edge.goes in rw (c, k) (g, inr (edge.other, refl, o))

abbrev pub fill : ℤ → ℕ → Fill
fill x l = record { at = x; letter = l }

pub added_more : (m : Rules) (f t : ℤ) (n k : ℕ) (old mid new : List Fill) (x : Fill) (here s target : Entered) → f ≤ℤ x.at → x.at ≡ here.entry → here.entry <ℤ t → new ≡ mid ++ x ∷ [] → n + 1 ≤ k → Step m here.entry (state_of s) x.letter (state_of here) → Added m here.entry t n old mid here target → Added m f t k old new s target
added_more m f t n k old mid new x here s target fx e et q le step (gs, p, len, w) = (
  gs ++ x ∷ [],
  q ∙ ap (λ (z : List Fill). z ++ x ∷ []) p ∙ append_assoc old gs (x ∷ []),
  (let i = length-append gs (x ∷ []) in omega arith),
  subst (λ (z : List Fill). Way m f t (state_of s) z (state_of target)) (sym (reverse-append gs (x ∷ []))) (fx, omega (arith, ints), (state_of here, subst (λ (y : ℤ). Step m y (state_of s) x.letter (state_of here)) (sym e) step, subst (λ (y : ℤ). Way m y t (state_of here) (reverse gs) (state_of target)) (sym e) w)),
)

pub added_none : (m : Rules) (f t : ℤ) (n : ℕ) (old : List Fill) (target : Entered) → Added m f t n old old target target
added_none m f t n old target = ([], sym (append-nil old), omega arith, refl)

-- the old entries that let a colour be left
pub has_some : (set : List Span) (floor : ℕ) (f t x y : ℤ) → IsFirst set floor f t x → x ≤ℤ y → y <ℤ t → HasOld set floor y
has_some set floor f t x y (a, b, c, d) le lt = let (e, h, o) = d (omega (arith, ints)) in (e, h, omega (arith, ints))

-- a target of a gap that isn't held is a new state of it
pub new_in_gap : (m : Rules) (sets : List (List Span)) (f t : ℤ) (best : List ℤ) (target : Entered) → IsMachine m → IsArrival m sets f t best → AfterGap m sets f t (state_of target) → (Holds sets (state_of target) → ⊥) → target.colour < m.colours → InGap m f t target × (at best target.colour ≤ℤ target.entry)
new_in_gap m sets f t best target laws arr g out cl = let few = laws.few_colours in let lt : target.colour < 16 = omega arith in elim ((arr.1 (state_of target)).0 g) [
  | inl h ↦ absurd (out h)
  | inr (a, b) ↦
      let e : get_or best target.colour t ≡ at best target.colour = get_or_default best target.colour t (pos 0) (let l = arr.0.0 in omega arith) in
      let low = (arr.0.1 target.colour lt).0 in
      (record { colour = cl; late = omega (arith, ints); early = b }, omega (arith, ints))
]

pub one_less : {X : Type 0} (old new : List X) (x : X) (n : ℕ) → old ≡ new ++ x ∷ [] → n + length old ≤ 16 → (n + 1) + length new ≤ 16
one_less {X = X} old new x n e l = let i : length old ≡ length new + 1 = ap (λ (z : List X). length z) e ∙ length-append new (x ∷ []) in omega arith

pub member_at : (sets : List (List Span)) (i : ℕ) (set : List Span) (e : ℤ) → i < length sets → set ≡ get_or sets i set → Member set e ↔ Member (get_or sets i []) e
member_at sets i set e lt is = let same : set ≡ get_or sets i [] = is ∙ get_or_default sets i set [] lt in (λ h. subst (λ (l : List Span). Member l e) same h, λ h. subst (λ (l : List Span). Member l e) (sym same) h)

-- ---- a way is a filling
way_stands : (m : Rules) (f t x : ℤ) (s v u : State) (fs : List Fill) → f ≤ℤ x → x <ℤ t → StandsIn m f x s v → Way m x t v fs u → Fills m f t s u
way_stands m f t x s v u [] fx xt w e = rw e (fills_later m f (x +ℤ pos 1) t s v (omega (arith, ints)) (within_next m f x s v w))
way_stands m f t x s v u (y ∷ ys) fx xt w (xy, yt, (z, a, r)) = way_stands m f t y.at s z u ys (omega (arith, ints)) yt (within_step m f y.at s v z y.letter (within_since m f x y.at s v xy w) a) r

pub way_fills : (m : Rules) (f t : ℤ) (s u : State) (fs : List Fill) → f <ℤ t → Way m f t s fs u → Fills m f t s u
way_fills m f t s u fs ft w = way_stands m f t f s s u fs (omega (arith, ints)) ft (within_start m f s) w

-- ---- states before a gap and after it
Since : ℤ → State → State → Type 0
Since f s v = (v ≡ s) ⊎ (f ≤ℤ v.entry)

step_since : (m : Rules) (f t : ℤ) (s v w : State) (l : ℕ) → f ≤ℤ t → Since f s v → Step m t v l w → Since f s w
unfolding Since
step_since m f t s v w l ft d (g, k) = elim k [ inl same ↦ rw same d | inr (ne, en, o) ↦ inr (omega (arith, ints)) ]

steps_since : (m : Rules) (f t : ℤ) (s v w : State) (ls : List ℕ) → f ≤ℤ t → Since f s v → Steps m t v ls w → Since f s w
steps_since m f t s v w [] ft d r = rw r d
steps_since m f t s v w (l ∷ ls) ft d (z, a, r) = steps_since m f t s z w ls ft (step_since m f t s v z l ft d a) r

run_since : (m : Rules) (f t : ℤ) (s v w : State) (lists : List (List ℕ)) → f ≤ℤ t → Since f s v → Run m t v lists w → Since f s w
run_since m f t s v w [] ft d r = rw r d
run_since m f t s v w (ls ∷ rest) ft d (z, a, r) = run_since m f (t +ℤ pos 1) s z w rest (omega (arith, ints)) (steps_since m f t s v z ls ft d a) r

-- what is entered before the gap was there before it
pub early_source : (m : Rules) (sets : List (List Span)) (f t : ℤ) (u : Entered) → AfterEarly m sets f t (state_of u) → u.entry <ℤ f → IsEarly sets f u
unfolding Since
early_source m sets f t u (s, h, e, (lists, len, r)) lt = elim (run_since m f f s s (state_of u) lists (omega (arith, ints)) (inl refl) r) [
  | inl same ↦ (subst (Holds sets) (sym same) h, lt)
  | inr late ↦ absurd (omega (arith, ints))
]

step_colour : (m : Rules) (t : ℤ) (v w : State) (l : ℕ) → IsMachine m → Step m t v l w → w.colour < m.colours
step_colour m t v w l laws (g, k) = goes_stays m v.colour l w.colour laws g

steps_colour : (m : Rules) (t : ℤ) (v w : State) (ls : List ℕ) → IsMachine m → v.colour < m.colours → Steps m t v ls w → w.colour < m.colours
steps_colour m t v w [] laws lt r = rw r lt
steps_colour m t v w (l ∷ ls) laws lt (z, a, r) = steps_colour m t z w ls laws (step_colour m t v z l laws a) r

run_colour : (m : Rules) (t : ℤ) (v w : State) (lists : List (List ℕ)) → IsMachine m → v.colour < m.colours → Run m t v lists w → w.colour < m.colours
run_colour m t v w [] laws lt r = rw r lt
run_colour m t v w (ls ∷ rest) laws lt (z, a, r) = run_colour m (t +ℤ pos 1) z w rest laws (steps_colour m t v z ls laws lt a) r

pub early_colour : (m : Rules) (sets : List (List Span)) (f t : ℤ) (u : State) → IsMachine m → length sets ≡ m.colours → AfterEarly m sets f t u → u.colour < m.colours
early_colour m sets f t u laws size (s, h, e, (lists, len, r)) = run_colour m f s u lists laws (let i = in_sets sets s.colour s.entry h in omega arith) r

-- the early states alone
module _ (sets early : List (List Span)) (f : ℤ) (is : (s : State) → Holds early s ↔ (Holds sets s × (s.entry <ℤ f))) where
  pub cut_reached : (m : Rules) (t : ℤ) (u : State) → AfterEarly m sets f t u → AfterGap m early f t u
  cut_reached m t u (s, h, e, k) = (s, (is s).1 (h, e), k)

  pub cut_held : (s : Entered) → Holds early (state_of s) → IsEarly sets f s
  cut_held s h = (is (state_of s)).0 h

  pub cut_in_gap : (m : Rules) (t : ℤ) (dep : List ℤ) (tables : List (List ℤ)) (u : Entered) → IsMachine m → length sets ≡ m.colours → AfterEarly m sets f t (state_of u) → f ≤ℤ u.entry → ((best : List ℤ) × IsArrival m early f t best × AreRounds m f t dep tables best) → InGap m f t u × InRounds m f t dep tables u
  cut_in_gap m t dep tables u laws size a late (best, arr, rounds) =
      let out : Holds early (state_of u) → ⊥ = λ h. let b = (cut_held u h).1 in absurd (omega (arith, ints)) in
      let n = new_in_gap m early f t best u laws arr (cut_reached m t (state_of u) a) out (early_colour m sets f t (state_of u) laws size a) in
      (n.0, (best, rounds, n.1))
