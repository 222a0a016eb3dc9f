-- Moves that leave no state.
use Rattle.std.proofs.Common.{◌≡◌, refl, sym, subst, inl, inr, ◌↔◌, ℕ, suc, zero, ◌+◌, ◌<◌, ◌≤◌, pos, negsuc, ◌≤ℤ◌, ◌<ℤ◌, List, [], ◌∷◌, ◌++◌, length, take, get_or, arith}
use Rattle.std.specs.Prelude.{Bool, IsTrue, IfOk, MatchOption, Option, Some, None, is_some, Result, Ok, Err}
use Rattle.std.proofs.lemmas.Int.{ints}
use Rattle.span_set.specs.declared.set.Span.{Span}
use Rattle.colour_machine.specs.Rules.{IsMachine, Rules}
use Rattle.reach.specs.Runs.{State, state}
use Rattle.reach.specs.Past.{AfterGap, Holds}
use Rattle.reach.proofs.States.{fills_none}
use Rattle.channel_path.specs.declared.moves.Move.{Move}
use Rattle.channel_path.specs.Walks.{AfterMoves, EnteredBefore, InOrder, StopsAt, IsMove, Walk, limit_after}
use Rattle.channel_path.specs.Places.{limit_of}
use Rattle.channel_path.specs.declared.moves.Move.TheVariants.{Gap, Letter}
use Rattle.channel_path.proofs.Moving.{gap_keeps, one_fits, taken_early, walk_early, walk_join, walk_one}
use Rattle.std.proofs.lemmas.List.{take_more}
use Rattle.std.proofs.lemmas.Bool.{cases_lt}
use Rattle.reach.proofs.Arriving.{fills_later}
use Rattle.decisive.specs.Moves.{EndDecides, EndIsLetter, IsEnd, IsEnding, IsFreeAt, NoneKeeps, NoneKeepsFrom}

-- a walk over moves is one over the first of them
walk_take : (m : Rules) (ys : List Move) (k j : ℕ) (s u : State) → k ≤ j → Walk m (take j ys) s u → (v : State) × Walk m (take k ys) s v
walk_take m ys zero j s u le w = (s, refl)
walk_take m ys (suc k) zero s u le w = absurd (omega arith)
walk_take m [] (suc k) (suc j) s u le w = (s, refl)
walk_take m (y ∷ ys) (suc k) (suc j) s u le (v, t, w) = let (z, r) = walk_take m ys k j v u (omega arith) w in (z, (v, t, r))

pub walk_first : (m : Rules) (ys : List Move) (k : ℕ) (s u : State) → Walk m ys s u → (v : State) × Walk m (take k ys) s v
walk_first m ys zero s u w = (s, refl)
walk_first m [] (suc k) s u w = (s, refl)
walk_first m (y ∷ ys) (suc k) s u (v, t, w) = let (z, r) = walk_first m ys k v u w in (z, (v, t, r))

pub ending_none : (m : Rules) (sets : List (List Span)) (ys : List Move) → (((s : State) × Holds sets s) → ⊥) → IsEnding m sets ys 0
ending_none m sets ys none = record {
  within = omega arith;
  none = λ u (s, h, e). none (s, h);
  some = λ k lt. absurd (omega arith);
}

pub ending_stop : (m : Rules) (sets : List (List Span)) (ys : List Move) (j : ℕ) → StopsAt m sets ys j → IsEnding m sets ys (j + 1)
ending_stop m sets ys j (lt, (u, (s, h, w)), none) = record {
  within = omega arith;
  none = none;
  some = λ k l. let (v, r) = walk_take m ys k j s u (omega arith) w in (v, (s, h, r));
}

pub stop_nowhere : (m : Rules) (sets : List (List Span)) (xs : List Move) (j : ℕ) → StopsAt m sets xs j → (u : State) → AfterMoves m sets xs u → ⊥
stop_nowhere m sets xs j (lt, some, none) u (s, h, w) = let (v, r) = walk_first m xs (j + 1) s u w in none v (s, h, r)

pub kept_by : (m : Rules) (sets mid kept : List (List Span)) (xs : List Move) (K : State → Type 0) → ((u : State) → Holds mid u ↔ AfterMoves m sets xs u) → ((u : State) → Holds kept u ↔ (Holds mid u × K u)) → (u : State) → Holds kept u ↔ (AfterMoves m sets xs u × K u)
kept_by m sets mid kept xs K one two u = ((λ h. let (a, k) = (two u).0 h in ((one u).0 a, k)), λ (a, k). (two u).1 ((one u).1 a, k))

pub end_none : (m : Rules) (sets : List (List Span)) (xs : List Move) (K : State → Type 0) (ys : List Move) → ((u : State) → AfterMoves m sets xs u → ⊥) → IsEnd m sets xs K ys 0
end_none m sets xs K ys none = record {
  within = omega arith;
  none = λ v u a k w. none v a;
  least = λ k lt. absurd (omega arith);
}

pub end_of : (m : Rules) (sets kept : List (List Span)) (xs : List Move) (K : State → Type 0) (ys : List Move) (n : ℕ) → ((u : State) → Holds kept u ↔ (AfterMoves m sets xs u × K u)) → IsEnding m kept ys n → IsEnd m sets xs K ys n
end_of m sets kept xs K ys n are e = record {
  within = e.within;
  none = λ v u a k w. e.none u (v, (are v).1 (a, k), w);
  least = λ k lt none. let (u, (v, h, w)) = e.some k lt in let (a, q) = (are v).0 h in none v u a q w;
}

pub some_keeps : (m : Rules) (sets kept : List (List Span)) (xs : List Move) (K : State → Type 0) (ys : List Move) → ((u : State) → Holds kept u ↔ (AfterMoves m sets xs u × K u)) → ((u : State) × AfterMoves m kept ys u) → NoneKeeps m sets xs K ys → ⊥
some_keeps m sets kept xs K ys are (u, (v, h, w)) none = let (a, q) = (are v).0 h in none v u a q w

end_all : (m : Rules) (sets : List (List Span)) (xs : List Move) (K : State → Type 0) (ys : List Move) (n : ℕ) → IsEnd m sets xs K ys n → NoneKeeps m sets xs K ys
end_all m sets xs K ys n e v u a k w = let (z, r) = walk_first m ys n v u w in e.none v z a k r

-- an end is found exactly where all of the moves leave none
pub end_says : (m : Rules) (sets : List (List Span)) (xs : List Move) (K : State → Type 0) (ys : List Move) (o : Option ℕ) → MatchOption o (NoneKeeps m sets xs K ys → ⊥) (λ n. IsEnd m sets xs K ys n) → IsTrue (is_some o) ↔ NoneKeeps m sets xs K ys
end_says m sets xs K ys None some = ((λ yes. absurd (cc)), λ none. absurd (some none))
end_says m sets xs K ys (Some n) end = ((λ yes. end_all m sets xs K ys n end), λ none. refl)

-- an answer to one question is one to each that means the same
pub same_answer : {E A B : Type 0} → (r : Result Bool E) → A ↔ B → IfOk r (λ b. IsTrue b ↔ A) → IfOk r (λ b. IsTrue b ↔ B)
same_answer (Ok b) law h = ((λ yes. law.0 (h.0 yes)), λ z. h.1 (law.1 z))
same_answer (Err e) law h = tt

-- order of moves before and after the place
pub order_first : (m : Rules) (low : ℕ) (xs ys : List Move) → InOrder m low (xs ++ ys) → InOrder m low xs
order_first m low [] ys o = tt
order_first m low (x ∷ xs) ys (a, b, o) = (a, b, order_first m (limit_after x) xs ys o)

pub order_rest : (m : Rules) (low : ℕ) (xs ys : List Move) → InOrder m low (xs ++ ys) → InOrder m (limit_of low xs) ys
order_rest m low [] ys o = o
order_rest m low (x ∷ xs) ys (a, b, o) = order_rest m (limit_after x) xs ys o

pub order_to : (m : Rules) (sets : List (List Span)) (xs ys : List Move) → ((low : ℕ) × EnteredBefore sets low × InOrder m low (xs ++ ys)) → (low : ℕ) × EnteredBefore sets low × InOrder m low xs
order_to m sets xs ys (low, e, o) = (low, e, order_first m low xs ys o)

pub order_on : (m : Rules) (sets kept : List (List Span)) (xs ys : List Move) (K : State → Type 0) → ((u : State) → Holds kept u ↔ (AfterMoves m sets xs u × K u)) → ((low : ℕ) × EnteredBefore sets low × InOrder m low (xs ++ ys)) → (low : ℕ) × EnteredBefore kept low × InOrder m low ys
order_on m sets kept xs ys K are (low, e, o) = (
  limit_of low xs,
  (λ u h. let ((s, hs, w), k) = (are u).0 h in walk_early m low xs s u (order_first m low xs ys o) w (e s hs)),
  order_rest m low xs ys o,
)

-- free states
pub free_first : (m : Rules) (u : State) → IsFreeAt m 0 u ↔ ((u.colour < m.colours) × (negsuc 36000 ≤ℤ u.entry) × (u.entry <ℤ pos 0))
free_first m u = (
  (λ (s, b, f). let e = (fills_none m (pos 0) s u).0 f in subst (λ (z : State). (z.colour < m.colours) × (negsuc 36000 ≤ℤ z.entry) × (z.entry <ℤ pos 0)) (sym e) b),
  λ b. (u, b, (fills_none m (pos 0) u u).1 refl),
)

pub broken_all : (m : Rules) (t : ℕ) (sets : List (List Span)) (xs : List Move) (K : State → Type 0) (ys : List Move) → ((u : State) → Holds sets u ↔ IsFreeAt m t u) → NoneKeeps m sets xs K ys ↔ NoneKeepsFrom m t xs K ys
broken_all m t sets xs K ys are = (
  (λ none s v u f a k w. none v u (s, (are s).1 f, a) k w),
  λ none v u (s, h, a) k w. none s v u ((are s).0 h) a k w,
)

pub free_after : (m : Rules) (t : ℕ) (old new : List (List Span)) → ((u : State) → Holds old u ↔ ((u.colour < m.colours) × (negsuc 36000 ≤ℤ u.entry) × (u.entry <ℤ pos 0))) → ((u : State) → Holds new u ↔ AfterGap m old (pos 0) (pos t) u) → (u : State) → Holds new u ↔ IsFreeAt m t u
free_after m t old new one two u = (
  (λ h. let (s, k, f) = (two u).0 h in (s, (one s).0 k, f)),
  λ (s, b, f). (two u).1 (s, (one s).1 b, f),
)

pub free_order : (m : Rules) (t : ℕ) (sets : List (List Span)) (xs : List Move) → ((u : State) → Holds sets u ↔ IsFreeAt m t u) → InOrder m t xs → (low : ℕ) × EnteredBefore sets low × InOrder m low xs
free_order m t sets xs are o = (t, (λ u h. let (s, b, f) = (are u).0 h in taken_early m (Gap 0 t) s u f b.2), o)

pub free_some : (m : Rules) (t : ℕ) (sets : List (List Span)) → IsMachine m → ((u : State) → Holds sets u ↔ IsFreeAt m t u) → (s : State) × Holds sets s
free_some m t sets laws are =
    let some = laws.some_colour in
    let u = state 0 (negsuc 0) in
    (u, (are u).1 (u, (omega arith, omega (arith, ints), omega (arith, ints)), fills_later m (pos 0) (pos 0) (pos t) u u (omega (arith, ints)) ((fills_none m (pos 0) u u).1 refl)))

pub until : {E : Type 0} → (m : Rules) (sets kept : List (List Span)) (xs : List Move) (K : State → Type 0) (ys : List Move) (r : Result (Option ℕ) E) → ((u : State) → Holds kept u ↔ (AfterMoves m sets xs u × K u)) → IfOk r (λ o. MatchOption o ((u : State) × AfterMoves m kept ys u) (λ n. IsEnding m kept ys n)) → IfOk r (λ o. MatchOption o (NoneKeeps m sets xs K ys → ⊥) (λ n. IsEnd m sets xs K ys n))
until m sets kept xs K ys (Ok None) are h = some_keeps m sets kept xs K ys are h
until m sets kept xs K ys (Ok (Some n)) are h = end_of m sets kept xs K ys n are h
until m sets kept xs K ys (Err e) are h = tt

pub decides : EndDecides
decides m sets xs keep at ys n e c = (
  (λ none. elim (cases_lt c n) [ inl lt ↦ absurd (e.least c lt none) | inr ge ↦ ge ]),
  λ le v u a k w. let (z, r) = walk_take m ys n c v u le w in e.none v z a k r,
)

pub is_letter : EndIsLetter
is_letter m sets xs keep at ys n low f t o e is =
    let lt : n < length ys = let w = e.within in omega arith in
    let fits : f < t = subst (λ (y : Move). IsMove m y) is (one_fits m low n ys (Letter 0 0 0) lt o) in
    let whole : take (n + 1) ys ≡ take n ys ++ get_or ys n (Letter 0 0 0) ∷ [] = take_more ys n (Letter 0 0 0) lt in
    e.least n (omega arith) (λ v u a k w. e.none v u a k (rw (whole, is) ((walk_join m (take n ys) (Gap f t ∷ []) v u).1 (u, w, (walk_one m (Gap f t) u u).1 (gap_keeps m f t u fits)))))
