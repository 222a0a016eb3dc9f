-- A way back over moves.
use Rattle.std.proofs.Common.{◌≡◌, refl, sym, ap, ◌∙◌, subst, inl, inr, ◌↔◌, ℕ, ◌+◌, ◌<◌, ◌≤◌, ◌^◌, ℤ, pos, ◌<ℤ◌, ◌≤ℤ◌, List, [], ◌++◌, length, take, drop, get_or, reverse, append_assoc, Option, arith}
use Rattle.std.proofs.lemmas.Int.{ints}
use Rattle.std.proofs.lemmas.List.{get_or_default, take_more, drop_more, reverse-append}
use Rattle.span_set.specs.declared.set.Span.{Span}
use Rattle.colour_machine.specs.Rules.{Rules}
use Rattle.gap_ways.specs.declared.states.Fill.{Fill}
use Rattle.gap_ways.specs.declared.states.Entered.{Entered}
use Rattle.reach.specs.Runs.{State, state}
use Rattle.reach.specs.Past.{Holds}
use Rattle.reach.specs.Ahead.{Admits}
use Rattle.gap_ways.specs.Ways.{state_of}
use Rattle.channel_path.specs.declared.moves.Move.{Move}
use Rattle.channel_path.specs.Walks.{limit_before, InOrder, AfterMoves, BeforeMoves, EnteredBefore, StopsAt}
use Rattle.channel_path.specs.Places.{EntersBefore, limit_of}
use Rattle.channel_path.specs.Kept.{letters, IsPast}
use Rattle.channel_ways.specs.Pasts.{AreRunPasts}
use Rattle.channel_ways.specs.Moves.{FilledMove, Filled, ComesFrom, IsMoveSource, AddedMoves, ClampedAfter, IsUnclamped}
use Rattle.channel_path.proofs.Moving.{after_end, walk_early, order_take, order_drop}
use Rattle.channel_ways.proofs.Running.{walk_prefix}

-- one more move in front, whose fills were added after those of the others
pub filled_more : (m : Rules) (xs : List Move) (j : ℕ) (d : Move) (hs bs : List Fill) (s v u : State) → j < length xs → FilledMove m (get_or xs j d) hs s v → Filled m (drop (j + 1) xs) bs v u → Filled m (drop j xs) (hs ++ bs) s u
filled_more m xs j d hs bs s v u lt a w = subst (λ (ys : List Move). Filled m ys (hs ++ bs) s u) (sym (drop_more xs j d lt)) (hs, bs, refl, (v, a, w))

-- the moves before a place end before the one at it
end_before : (m : Rules) (low j : ℕ) (xs : List Move) (d : Move) → j < length xs → InOrder m low xs → limit_of low (take j xs) ≤ limit_before (get_or xs j d)
end_before m low j xs d lt o = (subst (λ (ys : List Move). InOrder m (limit_of low (take j xs)) ys) (drop_more xs j d lt) (order_drop m low j xs o)).0

-- a state after one move more comes from one at the place before it
pub came_from : (m : Rules) (before past : List (List Span)) (low : ℕ) (xs : List Move) (j : ℕ) (d : Move) (u : State) → j < length xs → EnteredBefore before low → InOrder m low xs → IsPast m before xs j past → AfterMoves m before (take (j + 1) xs) u → ComesFrom m past (get_or xs j d) u
came_from m before past low xs j d u lt early o p a =
    let a2 = subst (λ (ys : List Move). AfterMoves m before ys u) (take_more xs j d lt) a in
    let (v, av, t) = (after_end m before (take j xs) (get_or xs j d) u).0 a2 in
    let (z, hz, w) = av in
    let k = walk_early m low (take j xs) z v (order_take m low j xs o) w (early z hz) in
    let b = end_before m low j xs d lt o in
    let e : v.entry <ℤ pos (limit_before (get_or xs j d)) = omega (arith, ints) in
    let enters : EntersBefore (drop j xs) v = subst (λ (ys : List Move). EntersBefore ys v) (sym (drop_more xs j d lt)) e in
    (v, (p.1 v enters).1 av, e, t)

-- and the state that was found is one at that place
pub at_place : (m : Rules) (before past : List (List Span)) (xs : List Move) (j : ℕ) (d : Move) (s : State) → j < length xs → IsPast m before xs j past → Holds past s → s.entry <ℤ pos (limit_before (get_or xs j d)) → AfterMoves m before (take j xs) s
at_place m before past xs j d s lt p h e =
    let enters : EntersBefore (drop j xs) s = subst (λ (ys : List Move). EntersBefore ys s) (sym (drop_more xs j d lt)) e in
    (p.1 s enters).0 h

-- what the sources of moves add, together
pub added_moves : (m : Rules) (xs : List Move) (j : ℕ) (d : Move) (old mid new : List Fill) (past : List (List Span)) (u v s : Entered) → j < length xs → AddedMoves m (drop (j + 1) xs) old mid v u → IsMoveSource m past (get_or xs j d) mid new v s → AddedMoves m (drop j xs) old new s u
added_moves m xs j d old mid new past u v s lt (gs, e, w) (h, en, (ks, q, a)) = (
  gs ++ ks,
  q ∙ (ap (λ (z : List Fill). z ++ ks) e ∙ append_assoc old gs ks),
  subst (λ (z : List Fill). Filled m (drop j xs) z (state_of s) (state_of u)) (sym (reverse-append gs ks)) (filled_more m xs j d (reverse ks) (reverse gs) (state_of s) (state_of v) (state_of u) lt a w),
)

pub at_start : (m : Rules) (before : List (List Span)) (u : State) → AfterMoves m before [] u → Holds before u
at_start m before u (z, h, e) = rw e h

-- ---- onward

-- a walk over all the moves stops nowhere
pub no_stop : (m : Rules) (sets : List (List Span)) (after : List (Option ℤ)) (xs : List Move) (s : State) (j : ℕ) → Holds sets s → BeforeMoves m after xs s → StopsAt m sets xs j → ⊥
no_stop m sets after xs s j h (u, w, a) (lt, some, none) = let (v, r) = walk_prefix m (j + 1) xs s u w in none v (s, h, r)

-- the source of a walk from one state is that state
pub from_one : (m : Rules) (sets : List (List Span)) (xs : List Move) (old new : List Fill) (f s u : Entered) → ((s : State) → Holds sets s ↔ (s ≡ state_of f)) → Holds sets (state_of s) → AddedMoves m xs old new s u → AddedMoves m xs old new f u
from_one m sets xs old new f s u is h (gs, q, w) = (gs, q, subst (λ (x : State). Filled m xs (reverse gs) x (state_of u)) ((is (state_of s)).0 h) w)

pub completes : (m : Rules) (sets old : List (List Span)) (after : List (Option ℤ)) (xs : List Move) (s : State) → Holds old s → ((u : State) → Holds sets u ↔ AfterMoves m old xs u) → BeforeMoves m after xs s → ((u : State) → Holds sets u → Admits after u → ⊥) → ⊥
completes m sets old after xs s h is (u, w, a) none = none u ((is u).1 (s, h, w)) a

-- ---- clamped states
-- a colour of a clamped state has an entry after the moves that isn't after it
pub some_after_all : (m : Rules) (sets : List (List Span)) (xs : List Move) (limit : ℤ) (u : State) → ClampedAfter m sets xs limit u → (e : ℤ) × AfterMoves m sets xs (state u.colour e) × (e ≤ℤ u.entry)
some_after_all m sets xs limit u (inl (a, l)) = (u.entry, a, omega (arith, ints))
some_after_all m sets xs limit u (inr (q, (e, a, l))) = (e, a, omega (arith, ints))

pub clamped_no_stop : (m : Rules) (sets : List (List Span)) (xs : List Move) (u : State) (j : ℕ) → AfterMoves m sets xs u → StopsAt m sets xs j → ⊥
clamped_no_stop m sets xs u j (s, h, w) (lt, some, none) = let (v, r) = walk_prefix m (j + 1) xs s u w in none v (s, h, r)

pub old_unclamped : (m : Rules) (sets past : List (List Span)) (xs : List Move) (limit entry : ℤ) (u : Entered) → u.entry ≤ℤ limit → ClampedAfter m sets xs limit (state_of u) → ((v : State) → Holds past v ↔ AfterMoves m sets xs v) → Holds past (state u.colour entry) → ((e : ℤ) → Holds past (state u.colour e) → entry ≤ℤ e) → IsUnclamped m sets xs limit u (record { colour = u.colour; entry = entry })
old_unclamped m sets past xs limit entry u le c is h least =
    let (e, a, l) = some_after_all m sets xs limit (state_of u) c in
    let k = least e ((is (state u.colour e)).1 a) in
    (refl, (is (state u.colour entry)).0 h, (refl, inr (omega (arith, ints), omega (arith, ints))))

-- the states of the run before a move
pub run_place : (m : Rules) (before : List (List Span)) (xs : List Move) (pasts : List (List (List Span))) (p run : ℕ) (past : List (List Span)) → p < length xs → AreRunPasts m before xs pasts → run ≡ letters (take p xs) → past ≡ get_or pasts run past → IsPast m before xs p past
run_place m before xs pasts p run past lt are r q =
    let k = are.1 p (omega arith) in
    let h : run < length pasts = rw r k.0 in
    let q2 : past ≡ get_or pasts (letters (take p xs)) [] = q ∙ (get_or_default pasts run past [] h ∙ ap (λ i. get_or pasts i []) r) in
    rw q2 k.1

pub clamped_colour : (m : Rules) (sets past : List (List Span)) (xs : List Move) (limit : ℤ) (u : Entered) → ClampedAfter m sets xs limit (state_of u) → ((v : State) → Holds past v ↔ AfterMoves m sets xs v) → u.entry ≤ℤ limit → (e : ℤ) × Holds past (state u.colour e) × (e ≤ℤ limit)
clamped_colour m sets past xs limit u c is le = let (e, a, l) = some_after_all m sets xs limit (state_of u) c in (e, (is (state u.colour e)).1 a, omega (arith, ints))

pub ends_soon : (m : Rules) (sets past : List (List Span)) (xs : List Move) (end : ℤ) → ((low : ℕ) × EnteredBefore sets low × InOrder m low xs × (limit_of low xs ≤ 2 ^ 38)) → end ≡ pos (2 ^ 38) → ((v : State) → Holds past v ↔ AfterMoves m sets xs v) → (s : State) → Holds past s → s.entry <ℤ end
ends_soon m sets past xs end (low, early, o, soon) e is s h = let (z, hz, w) = (is s).0 h in let k = walk_early m low xs z s o w (early z hz) in omega (arith, ints)
