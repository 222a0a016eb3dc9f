-- Moves one after another, forward and backward.
use Rattle.std.proofs.Common.{suc, zero, ◌≡◌, refl, sym, ◌∙◌, subst, inl, inr, ◌↔◌, ℕ, ◌+◌, ◌-◌, ◌<◌, ◌≤◌, ℤ, pos, ◌+ℤ◌, ◌<ℤ◌, Bool, true, false, List, [], ◌∷◌, ◌++◌, length, take, drop, get_or, arith, Option, IsTrue}
use Rattle.std.proofs.lemmas.Int.{ints}
use Rattle.std.proofs.lemmas.List.{take_more, drop_all, drop_more}
use Rattle.span_set.specs.declared.set.Span.{Span}
use Rattle.colour_machine.specs.Rules.{Rules}
use Rattle.reach.specs.Runs.{State, Step, Steps, Run, Fills}
use Rattle.reach.specs.Past.{Holds}
use Rattle.reach.specs.Ahead.{Admits}
use Rattle.reach.proofs.States.{fills_none}
use Rattle.reach.proofs.Arriving.{fills_later}
use Rattle.reach.proofs.Later.{then_iff}
use Rattle.channel_path.specs.declared.moves.Move.{Move}
use Rattle.channel_path.specs.declared.moves.Move.TheVariants.{Letter, Gap}
use Rattle.channel_path.specs.Walks.{limit_before, limit_after, IsMove, InOrder, Taken, Walk, AfterMove, AfterMoves, BeforeMove, BeforeMoves, StopsAt, EnteredBefore}
use Rattle.channel_path.specs.Places.{EntersBefore, limit_of}
use Rattle.channel_path.specs.Legs.{IsGap, AreGaps}
use Rattle.channel_path.proofs.Legs.{slice_join}

-- a walk over one list and then another
pub walk_join : (m : Rules) (xs ys : List Move) (s u : State) → Walk m (xs ++ ys) s u ↔ ((v : State) × Walk m xs s v × Walk m ys v u)
walk_join m [] ys s u = (λ w. (s, refl, w), λ (v, e, w). rw (← e) w)
walk_join m (x ∷ xs) ys s u = (
  λ (z, a, w). let k = (walk_join m xs ys z u).0 w in (k.0, (z, a, k.1), k.2),
  λ (v, (z, a, w), r). (z, a, (walk_join m xs ys z u).1 (v, w, r)),
)

pub walk_one : (m : Rules) (x : Move) (s u : State) → Walk m (x ∷ []) s u ↔ Taken m x s u
walk_one m x s u = (λ (v, a, e). rw e a, λ a. (u, a, refl))

-- one more move at the end
pub after_end : (m : Rules) (sets : List (List Span)) (xs : List Move) (x : Move) (u : State) → AfterMoves m sets (xs ++ x ∷ []) u ↔ ((v : State) × AfterMoves m sets xs v × Taken m x v u)
after_end m sets xs x u = (
  λ (s, h, w). let k = (walk_join m xs (x ∷ []) s u).0 w in (k.0, (s, h, k.1), (walk_one m x k.0 u).0 k.2),
  λ (v, (s, h, w), a). (s, h, (walk_join m xs (x ∷ []) s u).1 (v, w, (walk_one m x v u).1 a)),
)

-- the sets after one leg more
pub after_join : (m : Rules) (old now new : List (List Span)) (xs ys : List Move) → ((u : State) → Holds now u ↔ AfterMoves m old xs u) → ((u : State) → Holds new u ↔ AfterMoves m now ys u) → (u : State) → Holds new u ↔ AfterMoves m old (xs ++ ys) u
after_join m old now new xs ys inv step u = (
  λ h. let (v, hv, b) = (step u).0 h in
      let (s, hs, a) = (inv v).0 hv in
      (s, hs, (walk_join m xs ys s u).1 (v, a, b)),
  λ (s, hs, w).
      let (v, a, b) = (walk_join m xs ys s u).0 w in
      (step u).1 (v, (inv v).1 (s, hs, a), b),
)

pub after_leg : (m : Rules) (old now new : List (List Span)) (xs : List Move) (a b : ℕ) → a ≤ b → ((u : State) → Holds now u ↔ AfterMoves m old (take a xs) u) → ((u : State) → Holds new u ↔ AfterMoves m now (take (b - a) (drop a xs)) u) → (u : State) → Holds new u ↔ AfterMoves m old (take b xs) u
after_leg m old now new xs a b le inv step u = rw (slice_join xs a b le) (after_join m old now new (take a xs) (take (b - a) (drop a xs)) inv step u)

pub after_none : (m : Rules) (old : List (List Span)) (xs : List Move) (u : State) → Holds old u ↔ AfterMoves m old (take 0 xs) u
after_none m old xs u = (λ h. (u, h, refl), λ (s, h, e). rw e h)

-- a move of the list is one of the machine's
pub one_fits : (m : Rules) (low i : ℕ) (xs : List Move) (d : Move) → i < length xs → InOrder m low xs → IsMove m (get_or xs i d)
one_fits m low i [] d lt o = absurd (omega arith)
one_fits m low zero (x ∷ xs) d lt o = o.1
one_fits m low (suc i) (x ∷ xs) d lt o = one_fits m (limit_after x) i xs d (omega arith) o.2

-- a leg of one move
pub after_one : (m : Rules) (sets : List (List Span)) (xs : List Move) (d : Move) (u : State) → length xs ≡ 1 → AfterMove m sets (get_or xs 0 d) u ↔ AfterMoves m sets xs u
after_one m sets [] d u e = absurd (omega arith)
after_one m sets (x ∷ []) d u e = (λ (s, h, a). (s, h, (walk_one m x s u).1 a), λ (s, h, w). (s, h, (walk_one m x s u).0 w))
after_one m sets (x ∷ (y ∷ ys)) d u e = absurd (omega arith)

-- the sets after one move more
pub after_more : (m : Rules) (old now new : List (List Span)) (xs : List Move) (i : ℕ) (d : Move) → i < length xs → ((u : State) → Holds now u ↔ AfterMoves m old (take i xs) u) → ((u : State) → Holds new u ↔ AfterMove m now (get_or xs i d) u) → (u : State) → Holds new u ↔ AfterMoves m old (take (i + 1) xs) u
after_more m old now new xs i d lt inv step u =
    let x = get_or xs i d in
    rw (take_more xs i d lt) (after_join m old now new (take i xs) (x ∷ []) inv (λ w. then_iff (step w) (after_one m now (x ∷ []) d w refl)) u)

-- a walk stops at the move after which no state is left
pub stops_more : (m : Rules) (old now new : List (List Span)) (xs : List Move) (i : ℕ) (d : Move) (b : Bool) → i < length xs → ((s : State) × Holds now s) → ((u : State) → Holds now u ↔ AfterMoves m old (take i xs) u) → ((u : State) → Holds new u ↔ AfterMove m now (get_or xs i d) u) → (IsTrue b ↔ ((u : State) × Holds new u)) → b ≡ false → StopsAt m old xs i
stops_more m old now new xs i d b lt (s, h) inv step some none = (
  lt,
  (s, (inv s).0 h),
  λ u w.
      let yes : b ≡ true = some.1 (u, (after_more m old now new xs i d lt inv step u).1 w) in
      let bad : true ≡ false = sym yes ∙ none in cc,
)

-- no state is entered after the moves that lead to it
step_early : (m : Rules) (t x : ℤ) (s u : State) (l : ℕ) → Step m t s l u → t <ℤ x → s.entry <ℤ x → u.entry <ℤ x
step_early m t x s u l (g, k) b e = elim k [ inl same ↦ rw same e | inr (_, at, _) ↦ omega (arith, ints) ]

steps_early : (m : Rules) (t x : ℤ) (s u : State) (ls : List ℕ) → Steps m t s ls u → t <ℤ x → s.entry <ℤ x → u.entry <ℤ x
steps_early m t x s u [] r b e = rw r e
steps_early m t x s u (l ∷ ls) (v, a, r) b e = steps_early m t x v u ls r b (step_early m t x s v l a b e)

run_early : (m : Rules) (t : ℤ) (s u : State) (lists : List (List ℕ)) → Run m t s lists u → s.entry <ℤ t → u.entry <ℤ (t +ℤ pos (length lists))
run_early m t s u [] r e = let k : u.entry <ℤ t = rw r e in omega (arith, ints)
run_early m t s u (ls ∷ rest) (v, a, r) e =
    let n = steps_early m t (t +ℤ pos 1) s v ls a (omega (arith, ints)) (omega (arith, ints)) in
    let k = run_early m (t +ℤ pos 1) v u rest r n in omega (arith, ints)

pub taken_early : (m : Rules) (x : Move) (s u : State) → Taken m x s u → s.entry <ℤ pos (limit_before x) → u.entry <ℤ pos (limit_after x)
taken_early m (Letter at l r) s u a e = step_early m (pos at) (pos (at + 1)) s u l a (omega (arith, ints)) e
taken_early m (Gap f t) s u (lists, len, r) e = let n = run_early m (pos f) s u lists r e in omega (arith, ints)

pub walk_early : (m : Rules) (low : ℕ) (xs : List Move) (s u : State) → InOrder m low xs → Walk m xs s u → s.entry <ℤ pos low → u.entry <ℤ pos (limit_of low xs)
walk_early m low [] s u o w e = rw w e
walk_early m low (x ∷ xs) s u o (v, a, w) e = let b = o.0 in walk_early m (limit_after x) xs v u o.2 w (taken_early m x s v a (omega (arith, ints)))

pub earlier_low : (m : Rules) (a b : ℕ) (xs : List Move) → a ≤ b → InOrder m b xs → InOrder m a xs
earlier_low m a b [] h o = tt
earlier_low m a b (x ∷ xs) h o = ((let q = o.0 in omega arith), o.1, o.2)

pub order_take : (m : Rules) (low j : ℕ) (xs : List Move) → InOrder m low xs → InOrder m low (take j xs)
order_take m low zero xs o = tt
order_take m low (suc j) [] o = tt
order_take m low (suc j) (x ∷ xs) o = (o.0, o.1, order_take m (limit_after x) j xs o.2)

pub order_drop : (m : Rules) (low j : ℕ) (xs : List Move) → InOrder m low xs → InOrder m (limit_of low (take j xs)) (drop j xs)
order_drop m low zero xs o = o
order_drop m low (suc j) [] o = tt
order_drop m low (suc j) (x ∷ xs) o = order_drop m (limit_after x) j xs o.2

-- the states at a place are entered early enough for the moves of a leg from it
pub leg_order : (m : Rules) (old now : List (List Span)) (xs : List Move) (a b : ℕ) → ((low : ℕ) × EnteredBefore old low × InOrder m low xs) → ((u : State) → Holds now u ↔ AfterMoves m old (take a xs) u) → (low : ℕ) × EnteredBefore now low × InOrder m low (take (b - a) (drop a xs))
leg_order m old now xs a b (low, none, o) inv = (
  limit_of low (take a xs),
  λ s h. let (z, hz, w) = (inv s).0 h in walk_early m low (take a xs) z s (order_take m low a xs o) w (none z hz),
  order_take m (limit_of low (take a xs)) (b - a) (drop a xs) (order_drop m low a xs o),
)

-- and so for the next move, which is one of the machine's
pub move_order : (m : Rules) (old now : List (List Span)) (xs : List Move) (i : ℕ) (d x : Move) → i < length xs → get_or xs i d ≡ x → ((low : ℕ) × EnteredBefore old low × InOrder m low xs) → ((u : State) → Holds now u ↔ AfterMoves m old (take i xs) u) → IsMove m x × EnteredBefore now (limit_before x)
move_order m old now xs i d x lt e (low, none, o) inv =
    let here = limit_of low (take i xs) in
    let order : InOrder m here (get_or xs i d ∷ drop (i + 1) xs) = rw (drop_more xs i d lt) at (order_drop m low i xs o) in
    let (le, fits, rest) = rw e at order in (
      fits,
      λ s h. let (z, hz, w) = (inv s).0 h in let early = walk_early m low (take i xs) z s (order_take m low i xs o) w (none z hz) in omega (arith, ints),
    )

pub gap_keeps : (m : Rules) (f t : ℕ) (s : State) → f < t → Fills m (pos f) (pos t) s s
gap_keeps m f t s lt = fills_later m (pos f) (pos f) (pos t) s s (omega (arith, ints)) ((fills_none m (pos f) s s).1 refl)

pub taken_keeps : (m : Rules) (x : Move) (s : State) → IsGap x → IsMove m x → Taken m x s s
taken_keeps m (Letter at l r) s k fits = absurd k
taken_keeps m (Gap f t) s k fits = gap_keeps m f t s fits

-- gaps leave each state where it was, among others
gaps_keep : (m : Rules) (low : ℕ) (xs : List Move) (s : State) → AreGaps xs → InOrder m low xs → Walk m xs s s
gaps_keep m low [] s gaps o = refl
gaps_keep m low (x ∷ xs) s gaps o = (s, taken_keeps m x s (gaps 0 (Letter 0 0 0) (omega arith)) o.1, gaps_keep m (limit_after x) xs s (λ k d lt. gaps (suc k) d (omega arith)) o.2)

pub some_gaps : (m : Rules) (old new : List (List Span)) (xs : List Move) → AreGaps xs → ((low : ℕ) × EnteredBefore old low × InOrder m low xs) → ((s : State) × Holds old s) → ((u : State) → Holds new u ↔ AfterMoves m old xs u) → (u : State) × Holds new u
some_gaps m old new xs gaps (low, none, o) (s, h) after = (s, (after s).1 (s, h, gaps_keep m low xs s gaps o))

pub some_after : (m : Rules) (old new : List (List Span)) (x : Move) (f t : ℕ) → x ≡ Gap f t → IsMove m x → ((s : State) × Holds old s) → ((u : State) → Holds new u ↔ AfterMove m old x u) → (u : State) × Holds new u
some_after m old new x f t e k (s, h) a =
    let lt = subst (λ (y : Move). IsMove m y) e k in
    (s, (a s).1 (s, h, subst (λ (y : Move). Taken m y s s) (sym e) (gap_keeps m f t s lt)))

pub not_after : (m : Rules) (low : ℕ) (xs : List Move) (v : State) → InOrder m low xs → v.entry <ℤ pos low → EntersBefore xs v
not_after m low [] v o e = tt
not_after m low (x ∷ xs) v o e = let b = o.0 in omega (arith, ints)

-- a move more in front
pub ahead_turn : (m : Rules) (after now new : List (Option ℤ)) (low : ℕ) (x : Move) (xs : List Move) → InOrder m low (x ∷ xs) → ((s : State) → Admits now s ↔ (EntersBefore xs s × BeforeMoves m after xs s)) → ((s : State) → Admits new s ↔ ((s.entry <ℤ pos (limit_before x)) × BeforeMove m now x s)) → (s : State) → Admits new s ↔ (EntersBefore (x ∷ xs) s × BeforeMoves m after (x ∷ xs) s)
ahead_turn m after now new low x xs o inv step s = (
  λ a. let (e, (v, t, b)) = (step s).0 a in
      let (_, (u, w, h)) = (inv v).0 b in
      (e, (u, (v, t, w), h)),
  λ (e, (u, (v, t, w), h)).
      let n = taken_early m x s v t e in
      (step s).1 (e, (v, t, (inv v).1 (not_after m (limit_after x) xs v o.2 n, (u, w, h)))),
)

-- a state that moves lead to enters early enough for those after them
pub enters_on : (m : Rules) (low : ℕ) (ys zs : List Move) (s u : State) → InOrder m low (ys ++ zs) → Walk m ys s u → EntersBefore (ys ++ zs) s → EntersBefore zs u
enters_on m low [] zs s u o w e = rw w e
enters_on m low (y ∷ ys) zs s u o (v, a, w) e = enters_on m (limit_after y) ys zs v u o.2 w (not_after m (limit_after y) (ys ++ zs) v o.2 (taken_early m y s v a e))

-- moves in front of those that are known of the states which the first of them lead to
pub ahead_over : (m : Rules) (after now : List (Option ℤ)) (ys zs : List Move) (s : State) → ((v : State) → Walk m ys s v → Admits now v ↔ BeforeMoves m after zs v) → BeforeMoves m now ys s ↔ BeforeMoves m after (ys ++ zs) s
ahead_over m after now ys zs s inv = (
  λ (v, a, h).
      let (u, b, k) = (inv v a).0 h in
      (u, (walk_join m ys zs s u).1 (v, a, b), k),
  λ (u, w, k).
      let (v, a, b) = (walk_join m ys zs s u).0 w in
      (v, a, (inv v a).1 (u, b, k)),
)

-- the same at a place of a list
pub ahead_at : (m : Rules) (after now new : List (Option ℤ)) (xs : List Move) (j : ℕ) (d : Move) → InOrder m 0 xs → j < length xs → ((s : State) → Admits now s ↔ (EntersBefore (drop (j + 1) xs) s × BeforeMoves m after (drop (j + 1) xs) s)) → ((s : State) → Admits new s ↔ ((s.entry <ℤ pos (limit_before (get_or xs j d))) × BeforeMove m now (get_or xs j d) s)) → (s : State) → Admits new s ↔ (EntersBefore (drop j xs) s × BeforeMoves m after (drop j xs) s)
ahead_at m after now new xs j d o lt inv step =
    let e = drop_more xs j d lt in
    let low = limit_of 0 (take j xs) in
    let p = order_drop m 0 j xs o in
    subst (λ (ys : List Move). (s : State) → Admits new s ↔ (EntersBefore ys s × BeforeMoves m after ys s)) (sym e) (ahead_turn m after now new low (get_or xs j d) (drop (j + 1) xs) (subst (λ (ys : List Move). InOrder m low ys) e p) inv step)

pub ahead_none : (m : Rules) (after : List (Option ℤ)) (xs : List Move) (j : ℕ) → length xs ≤ j → (s : State) → Admits after s ↔ (EntersBefore (drop j xs) s × BeforeMoves m after (drop j xs) s)
ahead_none m after xs j h s = rw (drop_all j xs h) (λ a. (tt, (s, refl, a)), λ (_, (u, e, a)). rw (← e) a)
