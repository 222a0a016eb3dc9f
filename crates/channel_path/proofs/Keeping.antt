-- One Past for each run of gaps.
use Rattle.std.proofs.Common.{suc, zero, ◌≡◌, refl, ap, sym, subst, ◌∙◌, inl, inr, ◌⊎◌, ◌↔◌, ℕ, ◌+◌, ◌-◌, ◌<◌, ◌≤◌, ℤ, pos, ◌+ℤ◌, ◌<ℤ◌, ◌≤ℤ◌, List, [], ◌∷◌, ◌++◌, length, take, drop, get_or, arith}
use Rattle.std.proofs.lemmas.Int.{ints}
use Rattle.std.proofs.lemmas.Bool.{cases_eq, cases_order}
use Rattle.std.proofs.lemmas.List.{take_more, length_push, get_or_push, get_or_append_left, get_or_default, length-take}
use Rattle.span_set.specs.declared.set.Span.{Span}
use Rattle.colour_machine.specs.Rules.{Rules}
use Rattle.reach.specs.Runs.{State, Step, Steps, Run, Fills}
use Rattle.reach.specs.Past.{Holds}
use Rattle.reach.proofs.Later.{then_iff}
use Rattle.channel_path.specs.declared.moves.Move.{Move}
use Rattle.channel_path.specs.declared.moves.Move.TheVariants.{Letter, Gap}
use Rattle.channel_path.specs.Walks.{limit_before, limit_after, IsMove, InOrder, Taken, AfterMoves, EnteredBefore}
use Rattle.channel_path.specs.Places.{EntersBefore}
use Rattle.channel_path.specs.Kept.{letters, AreRuns, kept_before, IsPast}
use Rattle.channel_path.specs.Legs.{IsGap}
use Rattle.channel_path.proofs.Legs.{InLeg, InGaps, gaps_after}
use Rattle.channel_path.proofs.Moving.{taken_keeps, after_end, one_fits}

-- a state that was entered before the tenth was there before its letters
step_same : (m : Rules) (t x : ℤ) (s u : State) (l : ℕ) → Step m t s l u → u.entry <ℤ x → x ≤ℤ t → u ≡ s
step_same m t x s u l (g, k) e h = elim k [ inl same ↦ same | inr (_, at, _) ↦ absurd (omega (arith, ints)) ]

steps_same : (m : Rules) (t x : ℤ) (s u : State) (ls : List ℕ) → Steps m t s ls u → u.entry <ℤ x → x ≤ℤ t → u ≡ s
steps_same m t x s u [] r e h = r
steps_same m t x s u (l ∷ ls) (v, a, r) e h =
    let same = steps_same m t x v u ls r e h in
    same ∙ step_same m t x s v l a (subst (λ (w : State). w.entry <ℤ x) same e) h

run_same : (m : Rules) (t x : ℤ) (s u : State) (lists : List (List ℕ)) → Run m t s lists u → u.entry <ℤ x → x ≤ℤ t → u ≡ s
run_same m t x s u [] r e h = r
run_same m t x s u (ls ∷ rest) (v, a, r) e h =
    let same = run_same m (t +ℤ pos 1) x v u rest r e (omega (arith, ints)) in
    same ∙ steps_same m t x s v ls a (subst (λ (w : State). w.entry <ℤ x) same e) h

fills_same : (m : Rules) (f t : ℤ) (s u : State) → Fills m f t s u → u.entry <ℤ f → u ≡ s
fills_same m f t s u (lists, _, r) e = run_same m f f s u lists r e (omega (arith, ints))

pub move_on : (m : Rules) (x : Move) → IsMove m x → limit_before x ≤ limit_after x
move_on m (Letter at l r) k = omega arith
move_on m (Gap f t) k = omega arith

low_before : (m : Rules) (low i : ℕ) (xs : List Move) (d : Move) → i < length xs → InOrder m low xs → low ≤ limit_before (get_or xs i d)
low_before m low i [] d lt o = absurd (omega arith)
low_before m low zero (x ∷ xs) d lt o = o.0
low_before m low (suc i) (x ∷ xs) d lt o = let a = o.0 in let b = move_on m x o.1 in let c = low_before m (limit_after x) i xs d (omega arith) o.2 in omega arith

-- early enough for a move is early enough for those after it
enters_before : (m : Rules) (low j i : ℕ) (xs : List Move) (d : Move) (u : State) → j ≤ i → i < length xs → InOrder m low xs → EntersBefore (drop j xs) u → u.entry <ℤ pos (limit_before (get_or xs i d))
enters_before m low j i [] d u h lt o e = absurd (omega arith)
enters_before m low zero zero (x ∷ xs) d u h lt o e = e
enters_before m low zero (suc i) (x ∷ xs) d u h lt o e = let b = move_on m x o.1 in let c = low_before m (limit_after x) i xs d (omega arith) o.2 in omega (arith, ints)
enters_before m low (suc j) zero (x ∷ xs) d u h lt o e = absurd (omega arith)
enters_before m low (suc j) (suc i) (x ∷ xs) d u h lt o e = enters_before m (limit_after x) j i xs d u (omega arith) (omega arith) o.2 e

taken_same : (m : Rules) (x : Move) (s u : State) → IsGap x → Taken m x s u → u.entry <ℤ pos (limit_before x) → u ≡ s
taken_same m (Letter at l r) s u k a e = absurd k
taken_same m (Gap f t) s u k a e = fills_same m (pos f) (pos t) s u a e

-- to the states that are entered before a gap the moves lead with it and without it
gap_early : (m : Rules) (before : List (List Span)) (xs : List Move) (k : ℕ) (d : Move) (u : State) → k < length xs → IsGap (get_or xs k d) → IsMove m (get_or xs k d) → u.entry <ℤ pos (limit_before (get_or xs k d)) → AfterMoves m before (take (k + 1) xs) u ↔ AfterMoves m before (take k xs) u
gap_early m before xs k d u lt gap fits e =
    let x = get_or xs k d in
    let one = after_end m before (take k xs) x u in
    rw (take_more xs k d lt) (
      λ w. let (v, a, t) = one.0 w in rw (taken_same m x v u gap t e) a,
      λ a. one.1 (u, a, taken_keeps m x u gap fits),
    )

-- the same of gaps one after another
gaps_early : (m : Rules) (before : List (List Span)) (low : ℕ) (xs : List Move) (j n k : ℕ) (u : State) → InOrder m low xs → j + n ≡ k → k ≤ length xs → InGaps xs j k → EntersBefore (drop j xs) u → AfterMoves m before (take k xs) u ↔ AfterMoves m before (take j xs) u
gaps_early m before low xs j zero k u o sum h gaps e = let same : k ≡ j = omega arith in rw same ((λ w. w), (λ w. w))
gaps_early m before low xs j (suc n) k u o sum h gaps e =
    let d = Letter 0 0 0 in
    let at : k ≡ (j + n) + 1 = omega arith in
    let gap = gaps (j + n) d (omega arith) (omega arith) in
    let fits = one_fits m low (j + n) xs d (omega arith) o in
    let early = enters_before m low j (j + n) xs d u (omega arith) (omega arith) o e in
    let rest = gaps_early m before low xs j n (j + n) u o refl (omega arith) (λ i f le lt. gaps i f le (omega arith)) e in
    rw at (then_iff (gap_early m before xs (j + n) d u (omega arith) gap fits early) rest)

-- how many Pasts are kept
letters_end : (xs : List Move) (x : Move) → letters (xs ++ x ∷ []) ≡ letters xs + letters (x ∷ [])
letters_end [] x = omega arith
letters_end (Letter at l r ∷ xs) x = let e = letters_end xs x in omega arith
letters_end (Gap f t ∷ xs) x = letters_end xs x

letters_more : (xs : List Move) (i : ℕ) (d : Move) → i < length xs → letters (take (i + 1) xs) ≡ letters (take i xs) + letters (get_or xs i d ∷ [])
letters_more xs i d lt = rw (take_more xs i d lt) (letters_end (take i xs) (get_or xs i d))

pub few_letters : (xs : List Move) → letters xs ≤ length xs
few_letters [] = omega arith
few_letters (Letter at l r ∷ xs) = let e = few_letters xs in omega arith
few_letters (Gap f t ∷ xs) = let e = few_letters xs in omega arith

gap_counts : (x : Move) → IsGap x → letters (x ∷ []) ≡ 0
gap_counts (Letter at l r) k = absurd k
gap_counts (Gap f t) k = refl

-- gaps add no run
gaps_run : (xs : List Move) (j n k : ℕ) → j + n ≡ k → k ≤ length xs → InGaps xs j k → letters (take k xs) ≡ letters (take j xs)
gaps_run xs j zero k sum h gaps = let same : k ≡ j = omega arith in rw same refl
gaps_run xs j (suc n) k sum h gaps =
    let d = Letter 0 0 0 in
    let at : k ≡ (j + n) + 1 = omega arith in
    let none = gap_counts (get_or xs (j + n) d) (gaps (j + n) d (omega arith) (omega arith)) in
    let more = letters_more xs (j + n) d (omega arith) in
    let rest = gaps_run xs j n (j + n) refl (omega arith) (λ i f le lt. gaps i f le (omega arith)) in
    rw at (omega arith)

-- all places of a leg but the first have one run
pub leg_run : (xs : List Move) (a j b : ℕ) → a < j → j ≤ b → b ≤ length xs → InLeg xs a b → letters (take j xs) ≡ letters (take b xs)
leg_run xs a j b lt le h leg =
    let gaps = gaps_after xs a b leg in
    sym (gaps_run xs j (b - j) b (omega arith) h (λ i f low high. gaps i f (omega arith) high))

-- one run number more
pub runs_more : (xs : List Move) (i count number : ℕ) (runs : List ℕ) → i ≤ length xs → length runs ≡ i → count ≡ letters (take i xs) → number ≡ count → ((j : ℕ) → j < i → get_or runs j 0 ≡ letters (take j xs)) → (j : ℕ) → j < i + 1 → get_or (runs ++ number ∷ []) j 0 ≡ letters (take j xs)
runs_more xs i count number runs h n c e are j lt = elim (cases_eq j i) [
  | inl same ↦ get_or_push runs number 0 j (n ∙ sym same) ∙ (e ∙ (c ∙ ap (λ k. letters (take k xs)) (sym same)))
  | inr ne ↦ get_or_append_left runs (number ∷ []) 0 j (omega arith) ∙ are j (omega arith)
]

pub few_before : (xs : List Move) (i : ℕ) → letters (take i xs) ≤ length xs
few_before xs i = let few = few_letters (take i xs) in let size = length-take i xs in omega arith

pub count_more : (xs : List Move) (i : ℕ) (d : Move) (count : ℕ) → i < length xs → count ≡ letters (take i xs) → count + letters (get_or xs i d ∷ []) ≡ letters (take (i + 1) xs)
count_more xs i d count lt e = let more = letters_more xs i d lt in omega arith

-- the Past is that after the moves
abbrev pub IsAfter : Rules → List (List Span) → List Move → List (List Span) → Type 0
IsAfter m before xs past = (length past ≡ m.colours) × ((u : State) → Holds past u ↔ AfterMoves m before xs u)

-- the Past before each letter among the first n moves is kept, under the number of its run
abbrev pub AreKept : Rules → List (List Span) → List Move → ℕ → List (List (List Span)) → Type 0
AreKept m before xs n pasts = (length pasts ≡ letters (take n xs)) × ((k : ℕ) (d : Move) → k < n → (IsGap (get_or xs k d) → ⊥) → (letters (take k xs) < length pasts) × IsAfter m before (take k xs) (get_or pasts (letters (take k xs)) []))

kept_count : (x : Move) (pasts : List (List (List Span))) (past : List (List Span)) → length (kept_before x pasts past) ≡ length pasts + letters (x ∷ [])
kept_count (Letter at l r) pasts past = length_push pasts past
kept_count (Gap f t) pasts past = omega arith

kept_old : (x : Move) (pasts : List (List (List Span))) (past : List (List Span)) (i : ℕ) → i < length pasts → get_or (kept_before x pasts past) i [] ≡ get_or pasts i []
kept_old (Letter at l r) pasts past i lt = get_or_append_left pasts (past ∷ []) [] i lt
kept_old (Gap f t) pasts past i lt = refl

kept_new : (x : Move) (pasts : List (List (List Span))) (past : List (List Span)) (i : ℕ) → (IsGap x → ⊥) → length pasts ≡ i → (i < length (kept_before x pasts past)) × (get_or (kept_before x pasts past) i [] ≡ past)
kept_new (Letter at l r) pasts past i letter e = ((let n = length_push pasts past in omega arith), get_or_push pasts past [] i e)
kept_new (Gap f t) pasts past i letter e = absurd (letter tt)

-- the same after one leg more
pub kept_leg : (m : Rules) (before : List (List Span)) (xs : List Move) (a b : ℕ) (d : Move) (pasts : List (List (List Span))) (past : List (List Span)) → a < b → b ≤ length xs → InLeg xs a b → IsAfter m before (take a xs) past → AreKept m before xs a pasts → AreKept m before xs b (kept_before (get_or xs a d) pasts past)
kept_leg m before xs a b d pasts past lt h leg after kept =
    let x = get_or xs a d in
    let n = kept_count x pasts past in
    let size = kept.0 in
    let more = letters_more xs a d (omega arith) in
    let run = leg_run xs a (a + 1) b (omega arith) (omega arith) h leg in (
      omega arith,
      λ k f below letter. elim (cases_order k a) [
        | inl same ↦
            let new = kept_new x pasts past (letters (take a xs)) (λ g. letter (rw same (rw (get_or_default xs a d f (omega arith)) at g))) size in
            rw (same, new.1) (new.0, after)
        | inr other ↦ elim other [
          | inl early ↦
              let was = kept.1 k f early letter in
              let low = was.0 in
              rw (kept_old x pasts past (letters (take k xs)) low) (omega arith, was.1)
          | inr late ↦ absurd (letter (gaps_after xs a b leg k f (omega arith) below))
        ]
      ],
    )

is_gap_or : (x : Move) → IsGap x ⊎ (IsGap x → ⊥)
is_gap_or (Letter at l r) = inr (λ k. absurd k)
is_gap_or (Gap f t) = inl tt

-- from each place there are gaps alone up to a letter or the end
next_letter : (xs : List Move) (n j : ℕ) → j + n ≡ length xs → (k : ℕ) × (j ≤ k) × (k ≤ length xs) × InGaps xs j k × ((k ≡ length xs) ⊎ ((k < length xs) × ((d : Move) → IsGap (get_or xs k d) → ⊥)))
next_letter xs zero j sum = (j, omega arith, omega arith, λ k d low high. absurd (omega arith), inl (omega arith))
next_letter xs (suc n) j sum =
    let e = Letter 0 0 0 in
    elim (is_gap_or (get_or xs j e)) [
      | inl gap ↦
          let (k, le, h, gaps, end) = next_letter xs n (j + 1) (omega arith) in (
            k,
            omega arith,
            h,
            λ i d low high. elim (cases_eq i j) [
              | inl same ↦ rw same (rw (get_or_default xs j e d (omega arith)) at gap)
              | inr ne ↦ gaps i d (omega arith) high
            ],
            end,
          )
      | inr letter ↦ (
        j,
        omega arith,
        omega arith,
        λ k d low high. absurd (omega arith),
        inr (omega arith, λ d g. letter (rw (get_or_default xs j d e (omega arith)) at g)),
      )
    ]

-- a Past that was before the next letter, or after the last move, is that of its run's places
run_past : (m : Rules) (before : List (List Span)) (low : ℕ) (xs : List Move) (j k : ℕ) (past : List (List Span)) → InOrder m low xs → j ≤ k → k ≤ length xs → InGaps xs j k → IsAfter m before (take k xs) past → IsPast m before xs j past
run_past m before low xs j k past o le h gaps after = (after.0, λ u e. then_iff (after.1 u) (gaps_early m before low xs j (k - j) k u o (omega arith) h gaps e))

pub pasts_stand : (m : Rules) (before : List (List Span)) (xs : List Move) (pasts : List (List (List Span))) (past : List (List Span)) (runs : List ℕ) → ((low : ℕ) × EnteredBefore before low × InOrder m low xs) → AreRuns xs runs → AreKept m before xs (length xs) pasts → IsAfter m before (take (length xs) xs) past → (j : ℕ) → j ≤ length xs → (get_or runs j 0 < length (pasts ++ past ∷ [])) × IsPast m before xs j (get_or (pasts ++ past ∷ []) (get_or runs j 0) [])
pasts_stand m before xs pasts past runs (low, none, o) are kept after j lt =
    let n = length xs in
    let (k, le, h, gaps, end) = next_letter xs (n - j) j (omega arith) in
    let run : get_or runs j 0 ≡ letters (take k xs) = are.1 j (omega arith) ∙ sym (gaps_run xs j (k - j) k (omega arith) h gaps) in
    let size = kept.0 in
    let more = length_push pasts past in
    rw run (elim end [
      | inl last ↦
          let here : get_or (pasts ++ past ∷ []) (letters (take k xs)) [] ≡ past = get_or_push pasts past [] (letters (take k xs)) (rw last size) in
          let within : letters (take k xs) < length (pasts ++ past ∷ []) = rw last (omega arith) in
          rw here (within, run_past m before low xs j k past o le h gaps (rw last after))
      | inr letter ↦
          let was = kept.1 k (Letter 0 0 0) letter.0 (letter.1 (Letter 0 0 0)) in
          let below = was.0 in
          rw (get_or_append_left pasts (past ∷ []) [] (letters (take k xs)) below) (omega arith, run_past m before low xs j k (get_or pasts (letters (take k xs)) []) o le h gaps was.1)
    ])
