-- The possible states of the runs between letters.
use Rattle.std.proofs.Common.{suc, zero, ◌≡◌, refl, sym, subst, inl, inr, ◌↔◌, ℕ, ◌+◌, ◌-◌, ◌<◌, ◌≤◌, ◌^◌, ℤ, pos, negsuc, ◌+ℤ◌, ◌≤ℤ◌, List, [], ◌∷◌, ◌++◌, length, take, drop, get_or, arith}
use Rattle.std.proofs.lemmas.Int.{ints}
use Rattle.std.proofs.lemmas.List.{length_push, drop_more, take-take}
use Rattle.span_set.specs.declared.set.Span.{Span}
use Rattle.span_set.proofs.Sets.{int_cases}
use Rattle.colour_machine.specs.Rules.{Rules}
use Rattle.reach.specs.Runs.{State, Step, Steps, Run}
use Rattle.reach.specs.Past.{Holds}
use Rattle.gap_ways.specs.Ways.{NoneOlder}
use Rattle.channel_path.specs.declared.moves.Move.{Move}
use Rattle.channel_path.specs.declared.moves.Move.TheVariants.{Letter, Gap}
use Rattle.channel_path.specs.Walks.{limit_before, InOrder, Taken, Walk, AfterMoves, EnteredBefore, StopsAt}
use Rattle.channel_path.specs.Places.{EntersBefore}
use Rattle.channel_path.specs.Kept.{letters, AreRuns, IsPast}
use Rattle.channel_path.proofs.Legs.{slice_join}
use Rattle.channel_path.proofs.Moving.{walk_join}
use Rattle.channel_path.proofs.Keeping.{IsAfter, AreKept, pasts_stand}
use Rattle.channel_ways.specs.Pasts.{AreRunPasts}

letters_one : (x : Move) (xs : List Move) → letters (x ∷ xs) ≡ letters (x ∷ []) + letters xs
letters_one (Letter at l r) xs = omega arith
letters_one (Gap f t) xs = omega arith

abbrev pub counts : ℕ → List Move → List ℕ
counts c [] = c ∷ []
counts c (x ∷ xs) = c ∷ counts (c + letters (x ∷ [])) xs

counts_length : (c : ℕ) (xs : List Move) → length (counts c xs) ≡ length xs + 1
counts_length c [] = refl
counts_length c (x ∷ xs) = let i = counts_length (c + letters (x ∷ [])) xs in omega arith

counts_at : (c : ℕ) (xs : List Move) (j : ℕ) → j ≤ length xs → get_or (counts c xs) j 0 ≡ c + letters (take j xs)
counts_at c [] zero le = omega arith
counts_at c [] (suc j) le = absurd (omega arith)
counts_at c (x ∷ xs) zero le = omega arith
counts_at c (x ∷ xs) (suc j) le = let i = counts_at (c + letters (x ∷ [])) xs j (omega arith) in let k = letters_one x (take j xs) in omega arith

pub are_run_pasts : (m : Rules) (before : List (List Span)) (xs : List Move) (pasts new : List (List (List Span))) (past : List (List Span)) → ((low : ℕ) × EnteredBefore before low × InOrder m low xs) → AreKept m before xs (length xs) pasts → IsAfter m before (take (length xs) xs) past → letters (take (length xs) xs) ≡ letters xs → new ≡ pasts ++ past ∷ [] → AreRunPasts m before xs new
are_run_pasts m before xs pasts new past order kept after all e =
    let runs : AreRuns xs (counts 0 xs) = (counts_length 0 xs, λ j le. let i = counts_at 0 xs j le in omega arith) in
    let size = kept.0 in
    let more = length_push pasts past in (
      rw e (omega arith),
      λ j le. let k = pasts_stand m before xs pasts past (counts 0 xs) order runs kept after j le in
          let c : get_or (counts 0 xs) j 0 ≡ letters (take j xs) = (let i = counts_at 0 xs j le in omega arith) in
          rw e (rw c at k),
    )

-- no entry gets earlier
step_late : (m : Rules) (t b : ℤ) (s u : State) (l : ℕ) → Step m t s l u → b ≤ℤ t → b ≤ℤ s.entry → b ≤ℤ u.entry
step_late m t b s u l (g, k) h e = elim k [ inl same ↦ rw same e | inr (_, at, _) ↦ omega (arith, ints) ]

steps_late : (m : Rules) (t b : ℤ) (s u : State) (ls : List ℕ) → Steps m t s ls u → b ≤ℤ t → b ≤ℤ s.entry → b ≤ℤ u.entry
steps_late m t b s u [] r h e = rw r e
steps_late m t b s u (l ∷ ls) (v, a, r) h e = steps_late m t b v u ls r h (step_late m t b s v l a h e)

run_late : (m : Rules) (t b : ℤ) (s u : State) (lists : List (List ℕ)) → Run m t s lists u → b ≤ℤ t → b ≤ℤ s.entry → b ≤ℤ u.entry
run_late m t b s u [] r h e = rw r e
run_late m t b s u (ls ∷ rest) (v, a, r) h e = run_late m (t +ℤ pos 1) b v u rest r (omega (arith, ints)) (steps_late m t b s v ls a h e)

taken_late : (m : Rules) (b : ℤ) (x : Move) (s u : State) → Taken m x s u → b ≤ℤ pos 0 → b ≤ℤ s.entry → b ≤ℤ u.entry
taken_late m b (Letter at l r) s u a h e = step_late m (pos at) b s u l a (omega (arith, ints)) e
taken_late m b (Gap f t) s u (lists, len, r) h e = run_late m (pos f) b s u lists r (omega (arith, ints)) e

pub walk_late : (m : Rules) (b : ℤ) (xs : List Move) (s u : State) → Walk m xs s u → b ≤ℤ pos 0 → b ≤ℤ s.entry → b ≤ℤ u.entry
walk_late m b [] s u w h e = rw w e
walk_late m b (x ∷ xs) s u (v, a, w) h e = walk_late m b xs v u w h (taken_late m b x s v a h e)

-- no state that is kept for a place is older than those before the moves
pub place_older : (m : Rules) (before past : List (List Span)) (xs : List Move) (j : ℕ) (d : Move) → j < length xs → IsPast m before xs j past → NoneOlder before → NoneOlder past
place_older m before past xs j d lt p older u h = elim (int_cases u.entry (pos (limit_before (get_or xs j d)))) [
  | inl x ↦
      let enters : EntersBefore (drop j xs) u = subst (λ (ys : List Move). EntersBefore ys u) (sym (drop_more xs j d lt)) x.1 in
      let (s, hs, w) = (p.1 u enters).0 h in
      walk_late m (negsuc (2 ^ 39)) (take j xs) s u w (omega (arith, ints)) (older s hs)
  | inr x ↦ let y = x.1 in omega (arith, ints)
]

pub after_older : (m : Rules) (before past : List (List Span)) (xs : List Move) → ((u : State) → Holds past u ↔ AfterMoves m before xs u) → NoneOlder before → NoneOlder past
after_older m before past xs is older u h = let (s, hs, w) = (is u).0 h in walk_late m (negsuc (2 ^ 39)) xs s u w (omega (arith, ints)) (older s hs)

-- a place of a list that is walked to its end
pub walk_prefix : (m : Rules) (k : ℕ) (xs : List Move) (s u : State) → Walk m xs s u → (v : State) × Walk m (take k xs) s v
walk_prefix m zero xs s u w = (s, refl)
walk_prefix m (suc k) [] s u w = (s, refl)
walk_prefix m (suc k) (x ∷ xs) s u (v, a, w) = let (z, r) = walk_prefix m k xs v u w in (z, (v, a, r))

pub some_place : (m : Rules) (before past : List (List Span)) (k : ℕ) (xs : List Move) → ((u : State) × AfterMoves m before xs u) → ((u : State) → Holds past u ↔ AfterMoves m before (take k xs) u) → (u : State) × Holds past u
some_place m before past k xs (u, (s, h, w)) is = let (v, r) = walk_prefix m k xs s u w in (v, (is v).1 (s, h, r))

pub no_stop_after : (m : Rules) (sets : List (List Span)) (xs : List Move) (j : ℕ) → ((u : State) × AfterMoves m sets xs u) → StopsAt m sets xs j → ⊥
no_stop_after m sets xs j (u, (s, h, w)) (lt, some, none) = let (v, r) = walk_prefix m (j + 1) xs s u w in none v (s, h, r)

length_take_most : (n : ℕ) (xs : List Move) → length (take n xs) ≤ n
length_take_most zero xs = omega arith
length_take_most (suc n) [] = omega arith
length_take_most (suc n) (x ∷ xs) = let i = length_take_most n xs in omega arith

slice_one : (xs : List Move) (a b : ℕ) → length (take (b - a) (drop a xs)) ≤ b - a
slice_one xs a b = length_take_most (b - a) (drop a xs)

-- a leg that stops at its first move stops the walk there
stops_leg : (m : Rules) (old now : List (List Span)) (xs : List Move) (a b : ℕ) → a < b → b ≤ length xs → ((u : State) → Holds now u ↔ AfterMoves m old (take a xs) u) → StopsAt m now (take (b - a) (drop a xs)) 0 → StopsAt m old xs a
stops_leg m old now xs a b lt h inv (_, (u, (v, hv, w)), none) =
    let first : take 1 (take (b - a) (drop a xs)) ≡ take 1 (drop a xs) = take-take 1 (b - a) (drop a xs) (omega arith) in
    let one : (a + 1) - a ≡ 1 = omega arith in
    let joined : take (a + 1) xs ≡ take a xs ++ take 1 (drop a xs) = rw one at (slice_join xs a (a + 1) (omega arith)) in (
      omega arith,
      (v, (inv v).0 hv),
      λ z after.
          let (s, hs, r) = rw joined at after in
          let (y, one_way, rest) = (walk_join m (take a xs) (take 1 (drop a xs)) s z).0 r in
          none z (y, (inv y).1 (s, hs, one_way), rw first rest),
    )

pub no_stop_one : (m : Rules) (before past : List (List Span)) (xs : List Move) (a b j : ℕ) → b ≡ a + 1 → b ≤ length xs → ((u : State) × AfterMoves m before xs u) → ((u : State) → Holds past u ↔ AfterMoves m before (take a xs) u) → StopsAt m past (take (b - a) (drop a xs)) j → ⊥
no_stop_one m before past xs a b j e h some is stop =
    let few = slice_one xs a b in
    let lt = stop.0 in
    let first : j ≡ 0 = omega arith in
    no_stop_after m before xs a some (stops_leg m before past xs a b (omega arith) h is (subst (λ (k : ℕ). StopsAt m past (take (b - a) (drop a xs)) k) first stop))
