-- What the moves of an hour lead to, said of its runs.
use Rattle.std.proofs.Common.{refl, arith, Bool, ◌+◌, ◌<ℤ◌, ◌∷◌, ◌++◌, ℤ, pos, inl, inr, ◌≡◌, ◌↔◌, ℕ, ◌<◌, List, [], length, get_or, Option, Some, None}
use Rattle.span_set.specs.declared.set.Span.{Span}
use Rattle.reach.specs.Runs.{State, state}
use Rattle.reach.specs.Past.{Holds}
use Rattle.reach.proofs.Later.{then_iff}
use Rattle.channel_path.specs.Walks.{AfterMoves}
use Rattle.sig_base.specs.declared.values.Row.{Row}
use Rattle.gap_map.specs.declared.stretch.Stretch.{Stretch}
use Rattle.channel_tables.specs.declared.spec.Spec.{Spec}
use Rattle.std.proofs.lemmas.Int.{ints}
use Rattle.span_set.proofs.Sets.{int_cases}
use Rattle.std.proofs.lemmas.Bool.{cases_eq, cases_lt}
use Rattle.std.proofs.lemmas.Grind.{common_steps}
use Rattle.reach.specs.Ahead.{Admits}
use Rattle.channel_path.specs.declared.moves.Move.{Move}
use Rattle.channel_path.specs.Walks.{BeforeMoves}
use Rattle.channel_path.proofs.Moving.{not_after}
use Rattle.channel_tables.specs.Spec.{rules_of}
use Rattle.board.proofs.Bridge.{own_walk}
use Rattle.board.proofs.Ordering.{own_order}
use Rattle.board.proofs.Tracks.{spec_lettered}
use Rattle.board.proofs.Rows.{stop_found}
use Rattle.board.proofs.Stops.{stop_plain}
use Rattle.gap_map.specs.Stretches.{FollowOn, known_at}
use Rattle.board.specs.History.{Agreeing, Event, Track, events_at}
use Rattle.board.specs.Channels.{track}
use Rattle.board.specs.Moves.{RowsIn, own}
use Rattle.board.specs.Stops.{GoesOnAt, IsFirst, IsFirstStop, StopsAtRow, moves_at, rules_at}
use Rattle.board.specs.Places.{IsStop}
use Rattle.board.specs.Logs.{no_spec}
use Rattle.reach.specs.Past.{AreClamped}
use Rattle.channel_path.specs.declared.moves.Move.TheVariants.{Gap}
use Rattle.channel_path.specs.Places.{EntersBefore}
use Rattle.channel_path.proofs.Moving.{taken_early}
use Rattle.std.proofs.lemmas.List.{get_or_past}
use Rattle.board.specs.Places.{AllEarly}
use Rattle.board.specs.Hours.{AreClampedPasts, AreHourAheads, IsAfterHour, IsBeforeHour, IsHourStop}
use Rattle.board.proofs.Cases.{no_set}

first_same : (P Q : ℕ → Type 0) (S R : ℕ → ℕ → Type 0) (n : ℕ) (o : Option ℕ) → ((i : ℕ) → P i → Q i) → ((i x : ℕ) → S i x → R i x) → ((i x : ℕ) → R i x → S i x) → IsFirst P S n o → IsFirst Q R n o
first_same P Q S R n None p s r h = λ i lt. p i (h i lt)
first_same P Q S R n (Some x) p s r ((i, lt, st), least, each) = ((i, lt, s i x st), (λ j y l2 q. least j y l2 (r j y q)), λ j l2. elim (each j l2) [ inl g ↦ inl (p j g) | inr (y, q) ↦ inr (y, s j y q) ])

pub after_hour : (k : Track) (f t : ℕ) (rows : List Row) (ss : List Stretch) (before : List (List Span)) → FollowOn f t ss → RowsIn f t rows → (u : State) → AfterMoves k.rules before (own k 0 rows ss) u ↔ IsAfterHour k rows ss f t before u
after_hour k f t rows ss before h r u =
    let w = λ (s : State). own_walk k (known_at ss) (events_at rows) f t 0 rows ss s u h r (λ x l1 l2. refl) (λ x l1 l2. refl) in
    ((λ (s, hs, a). (s, hs, (w s).1 a)), λ (s, hs, a). (s, hs, (w s).0 a))

pub hour_stop : (specs : List Spec) (rows : List Row) (ss : List Stretch) (f t : ℕ) (before : List (List (List Span))) (stop : Option ℕ) → FollowOn f t ss → RowsIn f t rows → IsFirstStop specs rows ss before (length specs) stop → IsHourStop specs rows ss f t before stop
hour_stop specs rows ss f t before stop h r first =
    let d = no_spec in
    let k = λ (i : ℕ). track (get_or specs i d) in
    first_same (GoesOnAt specs rows ss before d) (λ i. (u : State) × IsAfterHour (track (get_or specs i d)) rows ss f t (get_or before i []) u) (StopsAtRow specs rows ss before d) (λ i n. IsStop (track (get_or specs i d)) rows ss f (get_or before i []) n) (length specs) stop
    (λ i (u, a). (u, (after_hour (k i) f t rows ss (get_or before i []) h r u).0 a))
    (λ i x s. stop_plain (k i) f t x rows ss (get_or before i []) (spec_lettered (get_or specs i d)) h r s)
    (λ i x s. stop_found (k i) f t x rows ss (get_or before i []) h r s)
    (first d)

-- the row that is named is one of the hour's
pub stop_within : (specs : List Spec) (rows : List Row) (ss : List Stretch) (f t n : ℕ) (before : List (List (List Span))) → IsHourStop specs rows ss f t before (Some n) → n < length rows
stop_within specs rows ss f t n before ((i, lt, stop), least, each) = stop.within

-- clamping keeps some state
pub clamped_some : (limit : ℤ) (old new : List (List Span)) → AreClamped limit old new → ((s : State) × Holds old s) → (s : State) × Holds new s
clamped_some limit old new (len, c) (s, h) = elim (int_cases s.entry limit) [
  | inr (_, le) ↦ (s, (c s.colour s.entry).1 (inl (h, le)))
  | inl (_, lt) ↦ (state s.colour limit, (c s.colour limit).1 (inr (refl, (s.entry, h, lt))))
]

-- after the hour no state is entered at its end or later
pub agreeing_early : (k : Track) (known : ℕ → Bool) (given : ℕ → List Event) (f t : ℕ) (s u : State) → Agreeing k known given f t s u → s.entry <ℤ pos f → u.entry <ℤ pos t
agreeing_early k known given f t s u (lists, len, (a, r)) e = taken_early k.rules (Gap f t) s u (lists, omega (arith, ints), r) e

pub pasts_early : (specs : List Spec) (rows : List Row) (ss : List Stretch) (f t : ℕ) (before pasts : List (List (List Span))) → length pasts ≡ length specs → AllEarly f before → AreClampedPasts specs rows ss f t before pasts → AllEarly t pasts
pasts_early specs rows ss f t before pasts len early a i s h = elim (cases_lt i (length specs)) [
  | inl lt ↦ elim ((a i lt s).0 h) [
    | inl ((z, hz, g), le) ↦ agreeing_early (track (get_or specs i no_spec)) (known_at ss) (events_at rows) f t z s g (early i z hz)
    | inr (e, x) ↦ omega (arith, ints)
  ]
  | inr ge ↦ let none : get_or pasts i [] ≡ [] = get_or_past pasts i [] (omega arith) in absurd (no_set s (rw none at h))
]

-- what the moves of one channel lead to is what the runs of its hour lead to
hour_moves : (specs : List Spec) (rows : List Row) (ss : List Stretch) (i : ℕ) (spec d : Spec) (course : List Move) (after : List (List (Option ℤ))) (old : List (Option ℤ)) (first : ℕ) → spec ≡ get_or specs i d → course ≡ moves_at specs rows ss i d → old ≡ get_or after i [] → (f t : ℕ) → first ≡ f → FollowOn f t ss → RowsIn f t rows → (s : State) → ((EntersBefore course s × BeforeMoves (rules_of spec) old course s) × (s.entry <ℤ pos first)) ↔ ((s.entry <ℤ pos f) × IsBeforeHour (track (get_or specs i d)) rows ss f t (get_or after i []) s)
hour_moves specs rows ss i spec d course after old first a b c f t e st r s =
    let k = track (get_or specs i d) in
    let order = (own_order k f t 0 rows ss (spec_lettered (get_or specs i d)) st r).0 in
    let w = λ (u : State). own_walk k (known_at ss) (events_at rows) f t 0 rows ss s u st r (λ x l1 l2. refl) (λ x l1 l2. refl) in
    rw (a, b, c, e) (
      (λ ((_, (u, x, y)), early). (early, (u, (w u).1 x, y))),
      (λ (early, (u, x, y)). ((not_after k.rules f (own k 0 rows ss) s order early, (u, (w u).0 x, y)), early)),
    )

-- one channel before the hour
pub before_hour : (specs : List Spec) (rows : List Row) (ss : List Stretch) (i : ℕ) (spec d : Spec) (course : List Move) (after : List (List (Option ℤ))) (old new : List (Option ℤ)) (first : ℕ) → spec ≡ get_or specs i d → course ≡ moves_at specs rows ss i d → old ≡ get_or after i [] → ((s : State) → Admits new s ↔ ((EntersBefore course s × BeforeMoves (rules_of spec) old course s) × (s.entry <ℤ pos first))) → (f t : ℕ) → first ≡ f → FollowOn f t ss → RowsIn f t rows → (s : State) → Admits new s ↔ ((s.entry <ℤ pos f) × IsBeforeHour (track (get_or specs i d)) rows ss f t (get_or after i []) s)
before_hour specs rows ss i spec d course after old new first a b c h f t e st r s = then_iff (h s) (hour_moves specs rows ss i spec d course after old first a b c f t e st r s)

-- and the other way round
pub hour_before : (specs : List Spec) (rows : List Row) (ss : List Stretch) (i : ℕ) (spec d : Spec) (course : List Move) (after : List (List (Option ℤ))) (old new : List (Option ℤ)) (first : ℕ) → spec ≡ get_or specs i d → course ≡ moves_at specs rows ss i d → old ≡ get_or after i [] → (f t : ℕ) → first ≡ f → FollowOn f t ss → RowsIn f t rows → ((s : State) → Admits new s ↔ ((s.entry <ℤ pos f) × IsBeforeHour (track (get_or specs i d)) rows ss f t (get_or after i []) s)) → (s : State) → Admits new s ↔ ((EntersBefore course s × BeforeMoves (rules_of spec) old course s) × (s.entry <ℤ pos first))
hour_before specs rows ss i spec d course after old new first a b c f t e st r h s =
    let w = hour_moves specs rows ss i spec d course after old first a b c f t e st r s in
    then_iff (h s) (w.1, w.0)

pub aheads_push : (specs : List Spec) (rows : List Row) (ss : List Stretch) (f t : ℕ) (after : List (List (Option ℤ))) (n : ℕ) (aheads : List (List (Option ℤ))) (one : List (Option ℤ)) → length aheads ≡ n → AreHourAheads specs rows ss f t after n aheads → ((length one ≡ (rules_at specs n no_spec).colours) × ((s : State) → Admits one s ↔ ((s.entry <ℤ pos f) × IsBeforeHour (track (get_or specs n no_spec)) rows ss f t (get_or after n []) s))) → AreHourAheads specs rows ss f t after (n + 1) (aheads ++ one ∷ [])
aheads_push specs rows ss f t after n aheads one l a b i lt = elim (cases_eq i n) [
  | inl e ↦ let at : get_or (aheads ++ one ∷ []) i [] ≡ one = grind (arith, common_steps) in rw (at, e) b
  | inr ne ↦ let below : i < n = omega arith in let b2 : i < length aheads = omega arith in let at : get_or (aheads ++ one ∷ []) i [] ≡ get_or aheads i [] = grind (arith, common_steps) in rw at (a i below)
]
