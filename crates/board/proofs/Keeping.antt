-- What was said of an hour holds again for the channels that are as they were.
use Rattle.std.proofs.Common.{◌≡◌, ◌↔◌, refl, inl, inr, ℕ, ℤ, pos, ◌+◌, ◌<◌, ◌<ℤ◌, ◌-ℤ◌, arith, List, [], ◌∷◌, ◌++◌, length, get_or, Option, Some, None}
use Rattle.std.specs.Prelude.{MatchOption}
use Rattle.std.proofs.lemmas.Bool.{cases_eq}
use Rattle.std.proofs.lemmas.Grind.{common_steps}
use Rattle.span_set.specs.declared.set.Span.{Span}
use Rattle.colour_machine.specs.Rules.{Rules}
use Rattle.reach.specs.Runs.{State, state}
use Rattle.reach.specs.Past.{Holds, AreClamped}
use Rattle.reach.proofs.Later.{then_iff}
use Rattle.channel_path.specs.declared.moves.Move.{Move}
use Rattle.channel_path.specs.Walks.{AfterMoves}
use Rattle.channel_path.proofs.Moving.{not_after}
use Rattle.gap_map.specs.Stretches.{FollowOn, known_at}
use Rattle.reach.specs.Ahead.{Admits}
use Rattle.sig_base.specs.declared.values.Row.{Row}
use Rattle.gap_map.specs.declared.stretch.Stretch.{Stretch}
use Rattle.channel_tables.specs.Spec.{rules_of}
use Rattle.channel_tables.specs.declared.spec.Spec.{Spec}
use Rattle.board.specs.History.{Track, events_at}
use Rattle.board.specs.Channels.{track}
use Rattle.board.specs.Logs.{IsHour, first_tenth, end_tenth, no_spec}
use Rattle.board.specs.Moves.{RowsIn, own}
use Rattle.board.specs.Stops.{GoesOnAt, IsEarlier, IsFirstStop, IsWalked, StopRow, StopsAtRow, Survives, moves_at, rules_at}
use Rattle.board.specs.Hours.{AreAlike, AreHourAheads, ArePastsOf, Clamped, IsAfterHour, IsBeforeHour, IsHourStop}
use Rattle.board.proofs.Bridge.{own_walk}
use Rattle.board.proofs.Ordering.{own_order}
use Rattle.board.proofs.Tracks.{spec_lettered}
use Rattle.board.proofs.Plain.{after_hour, hour_stop}
use Rattle.board.proofs.Stopping.{first_more, stop_row_once, no_stop}
use Rattle.board.proofs.Within.{hour_rows}

-- what leads alike over the hour's moves does over its runs
alike_hour : (s : Spec) (f t : ℕ) (rows : List Row) (ss : List Stretch) (a b : List (Option ℤ)) → FollowOn f t ss → RowsIn f t rows → AreAlike (rules_of s) a b (own (track s) 0 rows ss) → (u : State) → u.entry <ℤ pos f → IsBeforeHour (track s) rows ss f t a u ↔ IsBeforeHour (track s) rows ss f t b u
alike_hour s f t rows ss a b follow in_rows alike u early =
    let k = track s in
    let order = (own_order k f t 0 rows ss (spec_lettered s) follow in_rows).0 in
    let w = λ (v : State). own_walk k (known_at ss) (events_at rows) f t 0 rows ss u v follow in_rows (λ x l1 l2. refl) (λ x l1 l2. refl) in
    let both = alike u (not_after k.rules f (own k 0 rows ss) u order early) in (
      (λ (v, g, h). let (z, x, y) = both.0 (v, (w v).0 g, h) in (z, (w z).1 x, y)),
      λ (v, g, h). let (z, x, y) = both.1 (v, (w v).0 g, h) in (z, (w z).1 x, y),
    )

-- a channel that is led alike from before the hour keeps its states there
pub ahead_kept : (specs : List Spec) (rows : List Row) (ss : List Stretch) (h : ℕ) (was_after after was_before : List (List (Option ℤ))) (i : ℕ) (new : List (Option ℤ)) → IsHour h rows ss → i < length specs → AreHourAheads specs rows ss (first_tenth h) (end_tenth h) was_after (length specs) was_before → AreAlike (rules_at specs i no_spec) (get_or after i []) (get_or was_after i []) (moves_at specs rows ss i no_spec) → new ≡ get_or was_before i []
    → (length new ≡ (rules_at specs i no_spec).colours) × ((s : State) → Admits new s ↔ ((s.entry <ℤ pos (first_tenth h)) × IsBeforeHour (track (get_or specs i no_spec)) rows ss (first_tenth h) (end_tenth h) (get_or after i []) s))
ahead_kept specs rows ss h was_after after was_before i new is lt was alike e =
    let (width, states) = was i lt in
    let both = alike_hour (get_or specs i no_spec) (first_tenth h) (end_tenth h) rows ss (get_or after i []) (get_or was_after i []) is.follow (hour_rows h rows ss is) alike in
    rw e (width, λ s. ((λ a. let (early, b) = (states s).0 a in (early, (both s early).1 b)), λ (early, b). (states s).1 (early, (both s early).0 b)))

-- the row at which a channel stops, without its states
pub walked_stops : (m : Rules) (old : List (List Span)) (xs : List Move) (new : List (List Span)) (r : Option ℕ) → IsWalked m old xs new r → MatchOption r (Survives m old xs) (StopRow m old xs)
walked_stops m old xs new None h = h.1
walked_stops m old xs new (Some n) h = h

-- clamped, the same states are the same
pub clamped_same : (limit : ℤ) (P Q : State → Type 0) → ((v : State) → P v ↔ Q v) → (u : State) → Clamped limit P u ↔ Clamped limit Q u
clamped_same limit P Q same u = (
  λ h. elim h [ inl (p, l) ↦ inl ((same u).0 p, l) | inr (q, (x, p, l)) ↦ inr (q, (x, (same (state u.colour x)).0 p, l)) ],
  λ h. elim h [ inl (p, l) ↦ inl ((same u).1 p, l) | inr (q, (x, p, l)) ↦ inr (q, (x, (same (state u.colour x)).1 p, l)) ],
)

-- one channel after the hour
pub alone_after : (k : Track) (f t : ℕ) (rows : List Row) (ss : List Stretch) (old walked new : List (List Span)) → FollowOn f t ss → RowsIn f t rows → ((u : State) → Holds walked u ↔ AfterMoves k.rules old (own k 0 rows ss) u) → AreClamped (pos t -ℤ pos 36001) walked new → (u : State) → Holds new u ↔ Clamped (pos t -ℤ pos 36001) (IsAfterHour k rows ss f t old) u
alone_after k f t rows ss old walked new st r w c u = then_iff (c.1 u.colour u.entry) (clamped_same (pos t -ℤ pos 36001) (Holds walked) (IsAfterHour k rows ss f t old) (λ v. then_iff (w v) (after_hour k f t rows ss old st r v)) u)

-- the states of the first n channels after the hour, those older than an hour made one
abbrev pub AreClampedTo : List Spec → List Row → List Stretch → List (List (List Span)) → ℕ → List (List (List Span)) → Type 0
AreClampedTo specs rows ss before n pasts = (h : ℕ) → IsHour h rows ss → (i : ℕ) → i < n → (u : State) → Holds (get_or pasts i []) u ↔ Clamped (pos (end_tenth h) -ℤ pos 36001) (IsAfterHour (track (get_or specs i no_spec)) rows ss (first_tenth h) (end_tenth h) (get_or before i [])) u

-- each of the first n channels has a state
abbrev pub HaveStates : ℕ → List (List (List Span)) → Type 0
HaveStates n pasts = (i : ℕ) → i < n → (s : State) × Holds (get_or pasts i []) s

-- one channel more
pub clamped_more : (specs : List Spec) (rows : List Row) (ss : List Stretch) (before : List (List (List Span))) (n : ℕ) (pasts : List (List (List Span))) (new : List (List Span)) → length pasts ≡ n → AreClampedTo specs rows ss before n pasts → ((h : ℕ) → IsHour h rows ss → (u : State) → Holds new u ↔ Clamped (pos (end_tenth h) -ℤ pos 36001) (IsAfterHour (track (get_or specs n no_spec)) rows ss (first_tenth h) (end_tenth h) (get_or before n [])) u) → AreClampedTo specs rows ss before (n + 1) (pasts ++ new ∷ [])
clamped_more specs rows ss before n pasts new l a b h is i lt u = elim (cases_eq i n) [
  | inl e ↦ let at : get_or (pasts ++ new ∷ []) i [] ≡ new = grind (arith, common_steps) in rw (at, e) (b h is u)
  | inr ne ↦ let below : i < n = omega arith in let b2 : i < length pasts = omega arith in let at : get_or (pasts ++ new ∷ []) i [] ≡ get_or pasts i [] = grind (arith, common_steps) in rw at (a h is i below u)
]

pub states_more : (n : ℕ) (pasts : List (List (List Span))) (new : List (List Span)) → length pasts ≡ n → HaveStates n pasts → ((s : State) × Holds new s) → HaveStates (n + 1) (pasts ++ new ∷ [])
states_more n pasts new l a b i lt = elim (cases_eq i n) [
  | inl e ↦ let at : get_or (pasts ++ new ∷ []) i [] ≡ new = grind (arith, common_steps) in rw at b
  | inr ne ↦ let below : i < n = omega arith in let b2 : i < length pasts = omega arith in let at : get_or (pasts ++ new ∷ []) i [] ≡ get_or pasts i [] = grind (arith, common_steps) in rw at (a i below)
]

-- the first stop with one channel more
pub stop_more : (specs : List Spec) (rows : List Row) (ss : List Stretch) (before : List (List (List Span))) (n : ℕ) (a b r : Option ℕ) → IsFirstStop specs rows ss before n a → ((d : Spec) → MatchOption b (GoesOnAt specs rows ss before d n) (λ x. StopsAtRow specs rows ss before d n x)) → IsEarlier a b r → IsFirstStop specs rows ss before (n + 1) r
stop_more specs rows ss before n a b r first one e d = first_more (GoesOnAt specs rows ss before d) (StopsAtRow specs rows ss before d) (λ k x y. stop_row_once (rules_at specs k d) (get_or before k []) (moves_at specs rows ss k d) x y) (λ k x. no_stop (rules_at specs k d) (get_or before k []) (moves_at specs rows ss k d) x) n a b r (first d) (one d) e

-- a channel that goes on changes no stop
pub earlier_none : (a : Option ℕ) → IsEarlier a None a
earlier_none None = refl
earlier_none (Some x) = refl

-- what one channel was found to do, at its place
pub alone_stops : (specs : List Spec) (rows : List Row) (ss : List Stretch) (before : List (List (List Span))) (i : ℕ) (spec d : Spec) (old : List (List Span)) (next : Option ℕ) → spec ≡ get_or specs i d → old ≡ get_or before i [] → MatchOption next (Survives (rules_of spec) old (own (track spec) 0 rows ss)) (StopRow (rules_of spec) old (own (track spec) 0 rows ss)) → MatchOption next (GoesOnAt specs rows ss before d i) (λ x. StopsAtRow specs rows ss before d i x)
alone_stops specs rows ss before i spec d old None a b h = rw (a, b) at h
alone_stops specs rows ss before i spec d old (Some x) a b h = rw (a, b) at h

-- a channel with the same states before the hour goes on as then
pub kept_goes_on : (specs : List Spec) (rows : List Row) (ss : List Stretch) (h : ℕ) (was_before was_after before : List (List (List Span))) (i : ℕ) (d : Spec) → IsHour h rows ss → i < length specs → ArePastsOf specs rows ss was_before was_after → get_or before i [] ≡ get_or was_before i [] → get_or specs i no_spec ≡ get_or specs i d → GoesOnAt specs rows ss before d i
kept_goes_on specs rows ss h was_before was_after before i d is lt was same e =
    let (u, a) = (was h is).0 i lt in
    (u, rw (same, ← e) ((after_hour (track (get_or specs i no_spec)) (first_tenth h) (end_tenth h) rows ss (get_or was_before i []) is.follow (hour_rows h rows ss is) u).1 a))

-- and has the same states after it
pub kept_after : (specs : List Spec) (rows : List Row) (ss : List Stretch) (was_before was_after before : List (List (List Span))) (i : ℕ) (new : List (List Span)) → i < length specs → ArePastsOf specs rows ss was_before was_after → get_or before i [] ≡ get_or was_before i [] → new ≡ get_or was_after i [] → (h : ℕ) → IsHour h rows ss → (u : State) → Holds new u ↔ Clamped (pos (end_tenth h) -ℤ pos 36001) (IsAfterHour (track (get_or specs i no_spec)) rows ss (first_tenth h) (end_tenth h) (get_or before i [])) u
kept_after specs rows ss was_before was_after before i new lt was same e h is u = rw (e, same) ((was h is).1 i lt u)

-- the first stop in the hour's own words
pub stop_told : (specs : List Spec) (rows : List Row) (ss : List Stretch) (h : ℕ) (before : List (List (List Span))) (stop : Option ℕ) → IsHour h rows ss → IsFirstStop specs rows ss before (length specs) stop → IsHourStop specs rows ss (first_tenth h) (end_tenth h) before stop
stop_told specs rows ss h before stop is first = hour_stop specs rows ss (first_tenth h) (end_tenth h) before stop is.follow (hour_rows h rows ss is) first
