-- Filled moves from a state, and from one that is alike; and that they are a walk.
use Rattle.std.proofs.Common.{refl, sym, ap, ◌∙◌, subst, inl, inr, ℕ, ◌≤◌, ℤ, pos, ◌+ℤ◌, ◌≤ℤ◌, List, [], ◌∷◌, ◌++◌, reverse, append_assoc, arith}
use Rattle.std.proofs.lemmas.List.{reverse-append}
use Rattle.std.proofs.lemmas.Int.{ints}
use Rattle.colour_machine.specs.Rules.{Rules, IsMachine, Goes}
use Rattle.gap_ways.specs.declared.states.Fill.{Fill}
use Rattle.reach.specs.Runs.{State, Step}
use Rattle.gap_ways.specs.Ways.{Way, state_of}
use Rattle.gap_ways.proofs.Sources.{way_fills}
use Rattle.channel_path.specs.declared.moves.Move.{Move}
use Rattle.channel_path.specs.declared.moves.Move.TheVariants.{Letter, Gap}
use Rattle.channel_path.specs.Walks.{limit_before, limit_after, IsMove, InOrder, Taken, Walk}
use Rattle.channel_path.proofs.Keeping.{move_on}
use Rattle.channel_ways.specs.Moves.{FilledMove, Filled, Alike, AddedAlike}
use Rattle.channel_ways.specs.Laws.{FillingsAreWalks, AlikeGoesOn, HoursJoin, Thread}
use Rattle.gap_ways.specs.declared.states.Entered.{Entered}

filled_taken : (m : Rules) (x : Move) (fs : List Fill) (s u : State) → IsMove m x → FilledMove m x fs s u → Taken m x s u
filled_taken m (Letter at l r) fs s u k a = a.1
filled_taken m (Gap f t) fs s u k a = way_fills m (pos f) (pos t) s u fs (omega (arith, ints)) a.1

-- filled moves are a walk over the moves
pub filled_walk : (m : Rules) (low : ℕ) (xs : List Move) (fs : List Fill) (s u : State) → InOrder m low xs → Filled m xs fs s u → Walk m xs s u
filled_walk m low [] fs s u o w = w.1
filled_walk m low (x ∷ xs) fs s u o (hs, bs, e, (v, a, w)) = (v, filled_taken m x hs s v o.1 a, filled_walk m (limit_after x) xs bs v u o.2 w)

pub filled_join : (m : Rules) (xs ys : List Move) (fs gs : List Fill) (s v u : State) → Filled m xs fs s v → Filled m ys gs v u → Filled m (xs ++ ys) (fs ++ gs) s u
filled_join m [] ys fs gs s v u (e, q) w = rw e (rw (← q) w)
filled_join m (x ∷ xs) ys fs gs s v u (hs, bs, e, (z, a, r)) w = (hs, bs ++ gs, ap (λ (k : List Fill). k ++ gs) e ∙ append_assoc hs bs gs, (z, a, filled_join m xs ys bs gs z v u r w))

alike_self : (p : ℤ) (u : State) → Alike p u u
alike_self p u = (refl, inl refl)

step_alike : (m : Rules) (p t : ℤ) (s r u : State) (l : ℕ) → IsMachine m → p ≤ℤ (t +ℤ pos 1) → Alike p s r → Step m t s l u → (w : State) × Step m t r l w × Alike p u w
step_alike m p t s r u l laws pt (same, d) (g, k) = elim d [
  | inl e ↦ (u, rw e (g, k), alike_self p u)
  | inr (os, or) ↦
      let floor : m.floor r.colour ≤ 36000 = laws.low_floor r.colour (let a = g.0 in omega arith) in
      elim k [
        | inl kept ↦
            let g2 : Goes m s.colour l s.colour = subst (λ (z : State). Goes m s.colour l z.colour) kept g in
            let g3 : Goes m r.colour l r.colour = subst (λ (c : ℕ). Goes m c l c) (sym same) g2 in
            (r, (g3, inl refl), subst (λ (z : State). Alike p z r) (sym kept) (same, inr (os, or)))
        | inr (ne, en, o) ↦
            let g2 : Goes m r.colour l u.colour = subst (λ (c : ℕ). Goes m c l u.colour) (sym same) g in
            (u, (g2, inr ((λ q. ne (q ∙ same)), en, omega (arith, ints))), alike_self p u)
      ]
]

way_alike : (m : Rules) (p f t : ℤ) (fs : List Fill) (s r u : State) → IsMachine m → p ≤ℤ (f +ℤ pos 1) → Alike p s r → Way m f t s fs u → (w : State) × Way m f t r fs w × Alike p u w
way_alike m p f t [] s r u laws pf al e = (r, refl, subst (λ (z : State). Alike p z r) (sym e) al)
way_alike m p f t (x ∷ xs) s r u laws pf al (fx, xt, (v, a, w)) =
    let (v2, a2, al2) = step_alike m p x.at s r v x.letter laws (omega (arith, ints)) al a in
    let (u2, w2, al3) = way_alike m p x.at t xs v v2 u laws (omega (arith, ints)) al2 w in
    (u2, (fx, xt, (v2, a2, w2)), al3)

move_alike : (m : Rules) (p : ℤ) (x : Move) (fs : List Fill) (s r u : State) → IsMachine m → p ≤ℤ pos (limit_before x) → Alike p s r → FilledMove m x fs s u → (w : State) × FilledMove m x fs r w × Alike p u w
move_alike m p (Letter at l n) fs s r u laws pl al (e, a) = let (w, b, al2) = step_alike m p (pos at) s r u l laws (omega (arith, ints)) al a in (w, (e, b), al2)
move_alike m p (Gap f t) fs s r u laws pl al (e, a) = let (w, b, al2) = way_alike m p (pos f) (pos t) fs s r u laws (omega (arith, ints)) al a in (w, (e, b), al2)

-- from a state that is alike the same fills lead to one that is alike
pub filled_alike : (m : Rules) (p : ℤ) (low : ℕ) (xs : List Move) (fs : List Fill) (s r u : State) → IsMachine m → p ≤ℤ pos low → InOrder m low xs → Alike p s r → Filled m xs fs s u → (w : State) × Filled m xs fs r w × Alike p u w
filled_alike m p low [] fs s r u laws pl o al (e, q) = (r, (e, refl), subst (λ (z : State). Alike p z r) (sym q) al)
filled_alike m p low (x ∷ xs) fs s r u laws pl o al (hs, bs, e, (v, a, w)) =
    let b = o.0 in
    let (v2, a2, al2) = move_alike m p x hs s r v laws (omega (arith, ints)) al a in
    let n = move_on m x o.1 in
    let (u2, w2, al3) = filled_alike m p (limit_after x) xs bs v v2 u laws (omega (arith, ints)) o.2 al2 w in
    (u2, (hs, bs, e, (v2, a2, w2)), al3)

alike_more : (q p : ℤ) (z w v : State) → q ≤ℤ p → Alike p z w → Alike q w v → Alike p z v
alike_more q p z w v h (a, d) (b, k) = (
  b ∙ a,
  elim k [
    | inl e ↦ elim d [ inl f ↦ inl (e ∙ f) | inr (x, y) ↦ inr (x, subst (λ (r : State). (r.entry +ℤ pos 36001) ≤ℤ p) (sym e) y) ]
    | inr (x, y) ↦ elim d [
      | inl f ↦ inr (subst (λ (r : State). (r.entry +ℤ pos 36001) ≤ℤ p) f (omega (arith, ints)), omega (arith, ints))
      | inr (x2, y2) ↦ inr (x2, omega (arith, ints))
    ]
  ],
)

-- an hour more in front of the moves, whose clamped states the hours after it begin with
pub hour_more : (m : Rules) (xs ys : List Move) (limit p : ℤ) (low : ℕ) (old mid new : List Fill) (u s : Entered) (z : State) → IsMachine m → InOrder m low ys → (limit +ℤ pos 36001) ≤ℤ pos low → (limit +ℤ pos 36001) ≤ℤ p → Thread m ys p old mid u z → AddedAlike m xs limit mid new u s → Thread m (xs ++ ys) p old new s z
hour_more m xs ys limit p low old mid new u s z laws o h hp (gs, e, (w, f, al)) (v, al2, (hs, q, r)) =
    let (w2, f2, al3) = filled_alike m (limit +ℤ pos 36001) low ys (reverse gs) (state_of u) (state_of v) w laws h o al2 f in (
      gs ++ hs,
      q ∙ (ap (λ (k : List Fill). k ++ hs) e ∙ append_assoc old gs hs),
      (w2, subst (λ (k : List Fill). Filled m (xs ++ ys) k (state_of s) w2) (sym (reverse-append gs hs)) (filled_join m xs ys (reverse hs) (reverse gs) (state_of s) (state_of v) w2 r f2), alike_more (limit +ℤ pos 36001) p z w w2 hp al al3),
    )

pub are_walks : FillingsAreWalks
are_walks m low xs fs s u o w = filled_walk m low xs fs s u o w

pub goes_on : AlikeGoesOn
goes_on m p low xs fs s r u laws pl o al w = filled_alike m p low xs fs s r u laws pl o al w

pub join_hours : HoursJoin
join_hours m xs ys limit p low old mid new u s z laws o h hp t a = hour_more m xs ys limit p low old mid new u s z laws o h hp t a
