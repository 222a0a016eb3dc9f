-- Places that have one state alone, and the places before them.
use Rattle.std.proofs.Common.{◌≡◌, refl, ap, subst, sym, ◌∙◌, inl, inr, ◌↔◌, ℕ, ◌+◌, ◌-◌, ◌≤◌, ◌<◌, ℤ, pos, List, [], ◌∷◌, ◌++◌, length, take, drop, get_or, replicate, arith, Option, Some, None}
use Rattle.std.proofs.lemmas.Bool.{cases_eq}
use Rattle.std.proofs.lemmas.Int.{ints}
use Rattle.std.proofs.lemmas.List.{take_all, take-take, get_or-take, length-take-le, length_push, get_or_push, get_or_append_left, take-append-drop, length-drop, drop-drop, drop-take, drop_all, get_or-replicate, length-replicate}
use Rattle.span_set.specs.declared.set.Span.{Span}
use Rattle.colour_machine.specs.Rules.{Rules}
use Rattle.reach.specs.Runs.{State}
use Rattle.reach.specs.Past.{Holds}
use Rattle.reach.specs.Ahead.{Admits}
use Rattle.reach.specs.Single.{sets_of, IsSingle}
use Rattle.reach.specs.declared.past.Single.{Single}
use Rattle.reach.proofs.Alone.{holds_single, single_alone, some_single, only_length}
use Rattle.channel_path.specs.declared.moves.Move.{Move}
use Rattle.channel_path.specs.declared.past.RunPasts.{RunPasts}
use Rattle.channel_path.specs.declared.ahead.PlaceAheads.{PlaceAheads}
use Rattle.channel_path.specs.Walks.{InOrder, Walk, AfterMoves, BeforeMoves, EnteredBefore}
use Rattle.channel_path.specs.Places.{EntersBefore, IsBetween}
use Rattle.channel_path.specs.Kept.{AreRuns, IsPast, HasPast, past_of, ArePasts, HavePasts, AreStandIns}
use Rattle.channel_path.specs.Certain.{IsCertain, AreCertain, KeepsHead}
use Rattle.channel_path.proofs.Legs.{slice_join, rest_join}
use Rattle.channel_path.proofs.Moving.{order_take, walk_join, after_join, ahead_over}
use Rattle.channel_path.proofs.Keeping.{IsAfter, AreKept, pasts_stand}
use Rattle.channel_path.proofs.Serving.{held_on}
use Rattle.channel_path.proofs.Standing.{enters_front}

-- what is kept of the first moves is so where there are no others
kept_front : (m : Rules) (before : List (List Span)) (xs : List Move) (n : ℕ) (pasts : List (List (List Span))) → AreKept m before xs n pasts → AreKept m before (take n xs) n pasts
kept_front m before xs n pasts kept = (
  rw (take-take n n xs (omega arith)) kept.0,
  λ k d lt letter.
      let at : get_or (take n xs) k d ≡ get_or xs k d = get_or-take n xs k d lt in
      rw (take-take k n xs (omega arith)) (kept.1 k d lt (rw at at letter)),
)

-- the Pasts of the first moves
pub pasts_front : (m : Rules) (before : List (List Span)) (xs : List Move) (n : ℕ) (pasts : List (List (List Span))) (past : List (List Span)) (runs : List ℕ) → n ≤ length xs → ((low : ℕ) × EnteredBefore before low × InOrder m low xs) → AreRuns (take n xs) runs → AreKept m before xs n pasts → IsAfter m before (take n xs) past → (j : ℕ) → j ≤ length (take n xs) → (get_or runs j 0 < length (pasts ++ past ∷ [])) × IsPast m before (take n xs) j (get_or (pasts ++ past ∷ []) (get_or runs j 0) [])
pasts_front m before xs n pasts past runs h (low, none, o) are kept after =
    let ys = take n xs in
    let size : length ys ≡ n = length-take-le n xs h in
    let all : take (length ys) ys ≡ ys = take_all (length ys) ys (omega arith) in
    pasts_stand m before ys pasts past runs (low, none, order_take m low n xs o) are (subst (λ (k : ℕ). AreKept m before ys k pasts) (sym size) (kept_front m before xs n pasts kept)) (subst (λ (zs : List Move). IsAfter m before zs past) (sym all) after)

-- the moves lead to this state alone
abbrev pub IsOneAfter : Rules → List (List Span) → List Move → Single → Type 0
IsOneAfter m before xs o = IsSingle o × ((u : State) → Holds (sets_of o) u ↔ AfterMoves m before xs u)

-- so at each of the first n places
abbrev pub AreOneAfter : Rules → List (List Span) → List Move → ℕ → List Single → Type 0
AreOneAfter m before xs n sure = (length sure ≡ n) × ((j : ℕ) (d : Single) → j < n → IsOneAfter m before (take j xs) (get_or sure j d))

-- one place more
pub one_more : (m : Rules) (before : List (List Span)) (xs : List Move) (n : ℕ) (o : Single) (old new : List Single) → new ≡ old ++ o ∷ [] → IsOneAfter m before (take n xs) o → AreOneAfter m before xs n old → AreOneAfter m before xs (n + 1) new
one_more m before xs n o old new e one are = rw e (
  (let size = are.0 in let more = length_push old o in omega arith),
  λ j d lt. elim (cases_eq j n) [
    | inl same ↦
        let at : get_or (old ++ o ∷ []) j d ≡ o = get_or_push old o d j (are.0 ∙ sym same) in
        rw (at, same) one
    | inr ne ↦
        let at : get_or (old ++ o ∷ []) j d ≡ get_or old j d = get_or_append_left old (o ∷ []) d j (let size = are.0 in omega arith) in
        rw at (are.1 j d (omega arith))
  ],
)

-- where the last state is admitted, the way to it leads through those before it
pub all_certain : (m : Rules) (before : List (List Span)) (after : List (Option ℤ)) (xs : List Move) (o : Single) (sure : List Single) → AreOneAfter m before xs (length xs + 1) sure → IsOneAfter m before (take (length xs) xs) o → ((s : State) → Holds (sets_of o) s → Admits after s) → AreCertain m before after xs 0 sure
all_certain m before after xs o sure are last admits = (
  (let size = are.0 in omega arith),
  λ j k d sum le.
      let same : k ≡ j = omega arith in
      let here = are.1 j d (omega arith) in
      rw same (
        here.0,
        here.1,
        λ v held.
            let (u, hu) = some_single o last.0 in
            let (z, hz, w) = (last.1 u).0 hu in
            let whole : take (length xs) xs ≡ take j xs ++ drop j xs = take_all (length xs) xs (omega arith) ∙ sym (take-append-drop j xs) in
            let (x, first, rest) = (walk_join m (take j xs) (drop j xs) z u).0 (subst (λ (zs : List Move). Walk m zs z u) whole w) in
            let there = (here.1 x).1 (z, hz, first) in
            subst (λ (y : State). BeforeMoves m after (drop j xs) y) (single_alone (get_or sure j d) here.0 x v there held) (u, rest, admits u hu),
      ),
)

pub rest_slice : (xs : List Move) (first : ℕ) → take (length xs - first) (drop first xs) ≡ drop first xs
rest_slice xs first = let rest = length-drop first xs in take_all (length xs - first) (drop first xs) (omega arith)

-- the last Past of the first moves
pub first_past : (m : Rules) (before : List (List Span)) (xs : List Move) (first : ℕ) (pasts : RunPasts) → first ≤ length xs → ArePasts m before (take first xs) pasts → HasPast pasts first × (length (past_of pasts first) ≡ m.colours) × ((u : State) → Holds (past_of pasts first) u ↔ AfterMoves m before (take first xs) u)
first_past m before xs first pasts h are =
    let ys = take first xs in
    let n : length ys ≡ first = length-take-le first xs h in
    let p = are first (omega arith) in
    let none : drop first ys ≡ [] = drop_all first ys (omega arith) in
    let all : take first ys ≡ ys = take_all first ys (omega arith) in (
      p.0,
      p.1.0,
      λ u.
          let enters = subst (λ (zs : List Move). EntersBefore zs u) (sym none) tt in
          subst (λ (zs : List Move). Holds (past_of pasts first) u ↔ AfterMoves m before zs u) all (p.1.1 u enters),
    )

-- the certain places of the moves from a place on
pub certain_on : (m : Rules) (before past : List (List Span)) (after : List (Option ℤ)) (xs : List Move) (first : ℕ) (sure : List Single) → first ≤ length xs → ((u : State) → Holds past u ↔ AfterMoves m before (take first xs) u) → AreCertain m past after (drop first xs) 0 sure → AreCertain m before after xs first sure
certain_on m before past after xs first sure h inv are =
    let rest = length-drop first xs in (
      (let size = are.0 in omega arith),
      λ j k d sum le.
          let here = are.1 k k d (omega arith) (omega arith) in
          let o = get_or sure k d in
          let back : j - first ≡ k = omega arith in
          let later : drop k (drop first xs) ≡ drop j xs = drop-drop k first xs ∙ ap (λ n. drop n xs) sum in
          let join : take j xs ≡ take first xs ++ take k (drop first xs) = rw back at (slice_join xs first j (omega arith)) in (
            here.0,
            λ v. subst (λ (zs : List Move). Holds (sets_of o) v ↔ AfterMoves m before zs v) (sym join) (after_join m before past (sets_of o) (take first xs) (take k (drop first xs)) inv here.1 v),
            λ v held. subst (λ (zs : List Move). BeforeMoves m after zs v) later (here.2 v held),
          ),
    )

-- the moves from a place on are those up to the first certain one and those after it
head_join : (xs : List Move) (j first : ℕ) → j ≤ first → drop j xs ≡ drop j (take first xs) ++ drop first xs
head_join xs j first le =
    let e : j + (first - j) ≡ first = omega arith in
    let front : drop j (take first xs) ≡ take (first - j) (drop j xs) = rw e at (drop-take j (first - j) xs) in
    rest_join xs j first le ∙ ap (λ zs. zs ++ drop first xs) (sym front)

-- what leads to a place whose states are all admitted and all go on, goes on
head_over : (m : Rules) (after all : List (Option ℤ)) (xs : List Move) (first : ℕ) (pasts : RunPasts) (j : ℕ) (v : State) → first ≤ length xs → HavePasts m (take first xs) pasts → j ≤ first → ((s : State) → Holds (past_of pasts first) s → Admits all s) → ((s : State) → Holds (past_of pasts first) s → BeforeMoves m after (drop first xs) s) → EntersBefore (drop j (take first xs)) v → Holds (past_of pasts j) v → BeforeMoves m all (drop j (take first xs)) v ↔ BeforeMoves m after (drop j xs) v
head_over m after all xs first pasts j v h have le admits goes enters held =
    let ys = take first xs in
    let n : length ys ≡ first = length-take-le first xs h in
    let size = length-drop j ys in
    let whole : take (first - j) (drop j ys) ≡ drop j ys = take_all (first - j) (drop j ys) (omega arith) in
    let step = ahead_over m after all (drop j ys) (drop first xs) v (λ w walk.
    let there = (held_on m ys pasts j first v w have le (omega arith) enters held (subst (λ (zs : List Move). Walk m zs v w) (sym whole) walk)).1 in
    ((λ _. goes w there), λ _. admits w there)) in
    subst (λ (zs : List Move). BeforeMoves m all (drop j ys) v ↔ BeforeMoves m after zs v) (sym (head_join xs j first le)) step

-- the places before the first certain one
pub head_keeps : (m : Rules) (before : List (List Span)) (after all : List (Option ℤ)) (xs : List Move) (first : ℕ) (pasts : RunPasts) (aheads : PlaceAheads) → first ≤ length xs → ((low : ℕ) × EnteredBefore before low × InOrder m low xs) → AreRuns (take first xs) pasts.runs.items → ArePasts m before (take first xs) pasts → length aheads.numbers.items ≡ length (take first xs) + 1 → AreStandIns m all (take first xs) pasts 0 aheads → ((s : State) → Holds (past_of pasts first) s → Admits all s) → ((s : State) → Holds (past_of pasts first) s → BeforeMoves m after (drop first xs) s) → KeepsHead m before after xs first pasts aheads
head_keeps m before after all xs first pasts aheads h (low, early, order) runs are count stands admits goes =
    let ys = take first xs in
    let n : length ys ≡ first = length-take-le first xs h in
    let have : HavePasts m ys pasts = (runs, (before, (low, early, order_take m low first xs order), are)) in (
      (let r = runs.0 in omega arith),
      λ j lt.
          let p = are j (omega arith) in
          let q = stands j (length aheads.numbers.items - 1 - j) (omega arith) (omega arith) in
          let same : take j ys ≡ take j xs = take-take j first xs (omega arith) in (
            p.0,
            (omega arith, q.0),
            (
              p.1.0 ∙ sym q.1,
              λ v enters.
                  let soon = enters_front (drop j ys) (drop first xs) v (subst (λ (zs : List Move). EntersBefore zs v) (head_join xs j first (omega arith)) enters) in
                  let back = subst (λ (zs : List Move). Holds (past_of pasts j) v ↔ AfterMoves m before zs v) same (p.1.1 v soon) in
                  let on = λ (held : Holds (past_of pasts j) v). head_over m after all xs first pasts j v h have (omega arith) admits goes soon held in (
                    (λ (held, here). (back.0 held, (on held).0 ((q.2 v soon held).0 here))),
                    λ (passed, next). let held = back.1 passed in (held, (q.2 v soon held).1 ((on held).1 next)),
                  ),
            ),
          ),
    )

-- a certain place stands before those after it
pub goes_first : (m : Rules) (past : List (List Span)) (after : List (Option ℤ)) (xs : List Move) (sure : List Single) → AreCertain m past after xs 0 sure → (s : State) → Holds past s → BeforeMoves m after xs s
goes_first m past after xs sure are s held =
    let here = are.1 0 0 (record { colours = 0; colour = 0; entry = pos 0 }) (omega arith) (omega arith) in
    here.2 s ((here.1 s).1 (s, held, refl))

-- where no place is certain
pub unsure_keeps : (m : Rules) (before : List (List Span)) (after : List (Option ℤ)) (xs : List Move) (first : ℕ) (pasts : RunPasts) (aheads : PlaceAheads) (sure : List Single) → AreRuns xs pasts.runs.items → ArePasts m before xs pasts → length aheads.numbers.items ≡ length xs + 1 → AreStandIns m after xs pasts 0 aheads → first ≡ length xs + 1 → length sure ≡ 0 → KeepsHead m before after xs first pasts aheads × AreCertain m before after xs first sure
unsure_keeps m before after xs first pasts aheads sure runs are count stands e none = (
  (
    (let r = runs.0 in omega arith),
    λ j lt.
        let p = are j (omega arith) in
        let q = stands j (length aheads.numbers.items - 1 - j) (omega arith) (omega arith) in (
          p.0,
          (omega arith, q.0),
          (
            p.1.0 ∙ sym q.1,
            λ v enters. (
              (λ (held, here). ((p.1.1 v enters).0 held, (q.2 v enters held).0 here)),
              λ (passed, next). let held = (p.1.1 v enters).1 passed in (held, (q.2 v enters held).1 next),
            ),
          ),
        ),
  ),
  ((omega arith), λ j k d sum le. absurd (omega arith)),
)

-- what admits a single state
one_admits : (o : Single) → IsSingle o → (s : State) → Holds (sets_of o) s → Admits (replicate {A = Option ℤ} o.colours (Some o.entry)) s
one_admits o is s held =
    let (a, b) = (holds_single o is s).0 held in
    let lt = is.colour in
    let at : get_or (replicate {A = Option ℤ} o.colours (Some o.entry)) s.colour None ≡ Some o.entry = get_or-replicate {A = Option ℤ} o.colours s.colour (Some o.entry) None (omega arith) in
    rw at (omega (arith, ints))

-- the states of a certain place
pub certain_between : (m : Rules) (before : List (List Span)) (after : List (Option ℤ)) (xs ys : List Move) (o : Single) → IsCertain m before after xs ys o → ((s : State) → Holds (sets_of o) s → Admits (replicate {A = Option ℤ} o.colours (Some o.entry)) s) × IsBetween m before after xs ys (sets_of o) (replicate {A = Option ℤ} o.colours (Some o.entry))
certain_between m before after xs ys o is = (
  one_admits o is.0,
  (
    only_length o.colours o.colour o.entry ∙ sym (length-replicate {A = Option ℤ} o.colours (Some o.entry)),
    λ v enters. (
      (λ (held, here). ((is.1 v).0 held, is.2 v held)),
      λ (passed, next). let held = (is.1 v).1 passed in (held, one_admits o is.0 v held),
    ),
  ),
)
