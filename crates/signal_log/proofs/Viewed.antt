-- What the view of an hour says of its known places is what the histories of the window say.
use Rattle.std.proofs.Common.{◌≡◌, refl, ap, sym, ◌∙◌, subst, ◌↔◌, ℕ, ◌+◌, ◌*◌, ◌<◌, ◌≤◌, ℤ, pos, Bool, true, List, [], ◌++◌, length, take, drop, get_or, take_at, drop_at, arith, Option, Some}
use Rattle.std.proofs.lemmas.Int.{ints}
use Rattle.std.proofs.lemmas.List.{take-append-drop}
use Rattle.colour_machine.specs.Rules.{IsMachine}
use Rattle.span_set.specs.declared.set.Span.{Span}
use Rattle.reach.specs.Runs.{State, state, Steps}
use Rattle.reach.specs.Past.{Holds}
use Rattle.reach.specs.Ahead.{Admits}
use Rattle.reach.proofs.Later.{then_iff}
use Rattle.sig_base.specs.declared.values.Row.{Row}
use Rattle.gap_map.specs.Stretches.{known_at}
use Rattle.channel_tables.proofs.Machines.{spec_machine}
use Rattle.gap_map.proofs.Following.{follows}
use Rattle.hour_store.specs.Store.{Store, is_known, known_rows}
use Rattle.board.specs.History.{Agreeing, Event, Track, events_at, letters}
use Rattle.board.specs.Channels.{AreSpecs, track}
use Rattle.board.specs.Logs.{HourLog, end_tenth, first_tenth, no_spec}
use Rattle.board.specs.Places.{FromPlace, ToPlace}
use Rattle.board.specs.Verdicts.{MayPass, MayPassRow, PassStates}
use Rattle.board.proofs.Alike.{Alike, agreeing_alike}
use Rattle.board.proofs.Bridge.{agreeing_join}
use Rattle.board.proofs.Cutting.{events_join}
use Rattle.board.proofs.Product.{choose, product}
use Rattle.board.proofs.Tracks.{tracks_are}
use Rattle.board.proofs.Within.{known_within}
use Rattle.signal_log.specs.Log.{HasHistory, Log}
use Rattle.signal_log.specs.States.{IsCompleted, IsReached}
use Rattle.signal_log.specs.Points.{ComesUp}
use Rattle.signal_log.specs.Views.{HasHourRuns, IsHourOf, SeesEndPlaces, SeesEndsOfAll, SeesRowPlaces, before_in_tenth, log_in, tenth_of}
use Rattle.signal_log.specs.Laws.{HoursTell, ViewsTell}
use Rattle.signal_log.proofs.Runs.{agreeing_known, alike_back, alike_later, from_other, from_place, from_same, place_join, since_place, to_place, upto_other, upto_place, upto_same}
use Rattle.signal_log.proofs.Joined.{IsCompletedPlace, IsReachedPlace, after_events, at_end, end_of_one, events_after, history_runs, one_end}
use Rattle.signal_log.proofs.Hour.{SameIn, cut_tells, held_reached, reached_held, run_back, run_in, run_on}

-- of the states that come up after the hour, those that are admitted
abbrev AreAdmitted : Track → (ℕ → Bool) → (ℕ → List Event) → ℕ → ℕ → (State → Type 0) → List (Option ℤ) → Type 0
AreAdmitted k known given t T Up after = (u : State) → Up u → Admits after u ↔ ((e : State) × Agreeing k known given t T u e)

module _ (k : Track) (laws : IsMachine k.rules) (known : ℕ → Bool) (given : ℕ → List Event) (p t T : ℕ) (inside : t ≤ T) (Up : State → Type 0) (after : List (Option ℤ)) (states : AreAdmitted k known given t T Up after) (K : ℕ → Bool) (G given2 : ℕ → List Event) (y : ℕ) (same : SameIn K G known given2 y t) (later : (x : ℕ) → t ≤ x → known x ≡ true → given x ≡ given2 x) (first : p ≤ y) (last : y ≤ t) where
  -- a run to a state that is admitted goes on to the window's end, from a state that is alike too
  ahead_on : (v w u : State) → Alike k.rules (pos p) v w → Agreeing k K G y t v u → Up u → Admits after u → (e : State) × Agreeing k known given2 y T w e
  ahead_on v w u a g up ad =
      let (e, g3) = (states u up).0 ad in
      let g1 = (run_in k K G known given2 y t y t v u same (omega arith) (omega arith)).0 g in
      let (z, g2, b) = agreeing_alike k known given2 y t v w u laws (alike_later k.rules (pos p) (pos y) v w (omega (arith, ints)) a) g1 in
      let (x, g4, _) = agreeing_alike k known given t T u z e laws (alike_later k.rules (pos y) (pos t) u z (omega (arith, ints)) b) g3 in
      let g5 = agreeing_known k known known given given2 t T z x (λ q l1 l2 is. (is, later q l1 is)) g4 in
      (x, (agreeing_join k known given2 y t T w x last inside).1 (z, g2, g5))

  ahead_back : (v w e : State) → Alike k.rules (pos p) w v → ((u : State) → Agreeing k K G y t v u → Up u) → Agreeing k known given2 y T w e → (u : State) × Agreeing k K G y t v u × Admits after u
  ahead_back v w e a up g =
      let (z, g1, g2) = (agreeing_join k known given2 y t T w e last inside).0 g in
      let (u, g3, b) = agreeing_alike k known given2 y t w v z laws (alike_later k.rules (pos p) (pos y) w v (omega (arith, ints)) a) g1 in
      let g4 = (run_in k K G known given2 y t y t v u same (omega arith) (omega arith)).1 g3 in
      let g5 = agreeing_known k known known given2 given t T z e (λ q l1 l2 is. (is, sym (later q l1 is))) g2 in
      let (x, g6, _) = agreeing_alike k known given t T z u e laws (alike_later k.rules (pos y) (pos t) z u (omega (arith, ints)) b) g5 in
      (u, g4, (states u (up u g4)).1 (x, g6))

abbrev no_state : State
no_state = state 0 (pos 0)

module _ (s : Store) (view : HourLog) (are : AreSpecs view.specs) (is : IsHourOf s view) where
  abbrev log : Log
  log = log_in s view

  abbrev f : ℕ
  f = first_tenth view.hour

  abbrev t : ℕ
  t = end_tenth view.hour

  abbrev end : ℕ
  end = 36000 * length s.hours

  abbrev known : ℕ → Bool
  known = is_known s

  abbrev given : ℕ → List Event
  given = events_at (known_rows s)

  abbrev K : ℕ → Bool
  K = known_at view.stretches

  abbrev G : ℕ → List Event
  G = events_at view.rows

  abbrev channel : ℕ → Track
  channel i = track (get_or view.specs i no_spec)

  abbrev before_of : ℕ → List (List Span)
  before_of i = get_or view.before i []

  abbrev after_of : ℕ → List (Option ℤ)
  after_of i = get_or view.after i []

  laws : (i : ℕ) → i < length view.specs → IsMachine (channel i).rules
  laws i lt = spec_machine (get_or view.specs i no_spec) (are.fit i no_spec lt)

  same : SameIn K G known given f t
  same = cut_tells s view.hour (Some view.rows) view.stretches is.is_store is.within is.held is.cut

  inside : t ≤ end
  inside = let w = is.within in omega arith

  abbrev Up : ℕ → State → Type 0
  Up i u = ComesUp log (view.hour + 1) i u

  -- what a run of the hour leads to comes up
  comes_up : (i : ℕ) (a u : State) → i < length view.specs → Holds (before_of i) a → Agreeing (channel i) K G f t a u → Up i u
  comes_up i a u lt h g =
      let k = channel i in
      let next : t ≡ first_tenth (view.hour + 1) = omega arith in
      let (w, r, al) = run_on k (laws i lt) known given f (before_of i) (is.before.states i lt) K G given t same (λ q l there. refl) (omega arith) a u h g in
      let back = alike_back k.rules (pos t) u w (alike_later k.rules (pos f) (pos t) u w (omega (arith, ints)) al) in
      subst (λ (y : ℕ). (v : State) × IsReached log i y v × Alike k.rules (pos y) v u) next (w, r, back)

  admitted : (i : ℕ) → i < length view.specs → AreAdmitted (channel i) known given t end (Up i) (after_of i)
  admitted i lt u up = let next : first_tenth (view.hour + 1) ≡ t = omega arith in subst (λ (y : ℕ). Admits (after_of i) u ↔ ((e : State) × Agreeing (channel i) known given y end u e)) next (is.after.states i lt u up)

  tenth_within : (x : ℕ) → K x ≡ true → (f ≤ x) × (x < t)
  tenth_within x there = known_within f t x view.stretches (follows (is_known s) f t view.stretches is.cut.stretches) there

  -- at the end of a tenth, one channel
  end_to : (i x : ℕ) (v : State) → i < length view.specs → f ≤ x → x < t → MayPass view x i v → (w : State) × (IsReached log i (x + 1) w × IsCompleted log i (x + 1) w) × Alike (channel i).rules (pos f) v w
  end_to i x v lt l1 l2 ((a, h, g), (u, g2, ad)) =
      let k = channel i in
      let (w, r, al) = run_on k (laws i lt) known given f (before_of i) (is.before.states i lt) K G given (x + 1) (λ q m1 m2. same q m1 (omega arith)) (λ q l there. refl) (omega arith) a v h g in
      let c = ahead_on k (laws i lt) known given f t end inside (Up i) (after_of i) (admitted i lt) K G given (x + 1) (λ q m1 m2. same q (omega arith) m2) (λ q l there. refl) (omega arith) (omega arith) v w u al g2 (comes_up i a u lt h ((agreeing_join k K G f (x + 1) t a u (omega arith) (omega arith)).1 (v, g, g2))) ad in
      (w, (r, c), al)

  end_back : (i x : ℕ) (w : State) → i < length view.specs → f ≤ x → x < t → IsReached log i (x + 1) w → IsCompleted log i (x + 1) w → (v : State) × MayPass view x i v × Alike (channel i).rules (pos f) w v
  end_back i x w lt l1 l2 r (e, g) =
      let k = channel i in
      let (v, (a, h, g1), al) = run_back k (laws i lt) known given f (before_of i) (is.before.states i lt) K G given (x + 1) (λ q m1 m2. same q m1 (omega arith)) (λ q l there. refl) (omega arith) w r in
      let c = ahead_back k (laws i lt) known given f t end inside (Up i) (after_of i) (admitted i lt) K G given (x + 1) (λ q m1 m2. same q (omega arith) m2) (λ q l there. refl) (omega arith) (omega arith) v w e al (λ u g2. comes_up i a u lt h ((agreeing_join k K G f (x + 1) t a u (omega arith) (omega arith)).1 (v, g1, g2))) g in
      (v, ((a, h, g1), c), al)

  -- the rows up to a place, and those from it on
  place_parts : (n : ℕ) → take (before_in_tenth view n) (G (tenth_of view n)) ≡ events_at (take n view.rows) (tenth_of view n)
  place_parts n =
      let x = tenth_of view n in
      let parts : G x ≡ events_at (take n view.rows) x ++ events_at (drop n view.rows) x = ap (λ (rs : List Row). events_at rs x) (sym (take-append-drop n view.rows)) ∙ events_join (take n view.rows) (drop n view.rows) x in
      ap (λ es. take (before_in_tenth view n) es) parts ∙ take_at (events_at (take n view.rows) x) (events_at (drop n view.rows) x) (before_in_tenth view n) refl

  place_rest : (n : ℕ) → drop (before_in_tenth view n) (G (tenth_of view n)) ≡ events_at (drop n view.rows) (tenth_of view n)
  place_rest n =
      let x = tenth_of view n in
      let parts : G x ≡ events_at (take n view.rows) x ++ events_at (drop n view.rows) x = ap (λ (rs : List Row). events_at rs x) (sym (take-append-drop n view.rows)) ∙ events_join (take n view.rows) (drop n view.rows) x in
      ap (λ es. drop (before_in_tenth view n) es) parts ∙ drop_at (events_at (take n view.rows) x) (events_at (drop n view.rows) x) (before_in_tenth view n) refl

  to_row : (i n : ℕ) (a v : State) → f ≤ tenth_of view n → K (tenth_of view n) ≡ true → ToPlace (channel i) view.rows view.stretches f (tenth_of view n) n a v ↔ Agreeing (channel i) K (upto_place G (tenth_of view n) (before_in_tenth view n)) f (tenth_of view n + 1) a v
  to_row i n a v le there =
      let k = channel i in
      let x = tenth_of view n in
      let j = before_in_tenth view n in
      let both = to_place k K G f x j a v le there in
      let swap = place_parts n in (
        (λ (z, g, ev). both.1 (z, g, subst (λ (es : List Event). Steps k.rules (pos x) z (letters k es) v) (sym swap) ev)),
        λ g. let (z, g1, ev) = both.0 g in (z, g1, subst (λ (es : List Event). Steps k.rules (pos x) z (letters k es) v) swap ev),
      )

  from_row : (i n : ℕ) (v u : State) → tenth_of view n < t → K (tenth_of view n) ≡ true → FromPlace (channel i) view.rows view.stretches (tenth_of view n) t n v u ↔ Agreeing (channel i) K (from_place G (tenth_of view n) (before_in_tenth view n)) (tenth_of view n) t v u
  from_row i n v u lt there =
      let k = channel i in
      let x = tenth_of view n in
      let j = before_in_tenth view n in
      let both = since_place k K G x t j v u lt there in
      let swap = place_rest n in (
        (λ (b, ev, g). both.1 (b, subst (λ (es : List Event). Steps k.rules (pos x) v (letters k es) b) (sym swap) ev, g)),
        λ g. let (b, ev, g1) = both.0 g in (b, subst (λ (es : List Event). Steps k.rules (pos x) v (letters k es) b) swap ev, g1),
      )

  upto_in_hour : (x j : ℕ) → x < t → SameIn K (upto_place G x j) known (upto_place given x j) f (x + 1)
  upto_in_hour x j lt q m1 m2 = let (e, g) = same q m1 (omega arith) in (e, λ there. upto_same G given x j q (g there))

  from_in_hour : (x j : ℕ) → f ≤ x → SameIn K (from_place G x j) known (from_place given x j) x t
  from_in_hour x j le q m1 m2 = let (e, g) = same q (omega arith) m2 in (e, λ there. from_same G given x j q (g there))

  -- before a known row
  row_to : (i n : ℕ) (v : State) → i < length view.specs → K (tenth_of view n) ≡ true → MayPassRow view n i v → (w : State) × (IsReachedPlace log i (tenth_of view n) (before_in_tenth view n) w × IsCompletedPlace log i (tenth_of view n) (before_in_tenth view n) w) × Alike (channel i).rules (pos f) v w
  row_to i n v lt there ((a, h, to), (u, from, ad)) =
      let k = channel i in
      let x = tenth_of view n in
      let j = before_in_tenth view n in
      let (l1, l2) = tenth_within x there in
      let (w, r, al) = run_on k (laws i lt) known given f (before_of i) (is.before.states i lt) K (upto_place G x j) (upto_place given x j) (x + 1) (upto_in_hour x j l2) (λ q l m. sym (upto_other given x j q (λ e. absurd (omega arith)))) (omega arith) a v h ((to_row i n a v l1 there).0 to) in
      let c = ahead_on k (laws i lt) known given f t end inside (Up i) (after_of i) (admitted i lt) K (from_place G x j) (from_place given x j) x (from_in_hour x j l1) (λ q l m. sym (from_other given x j q (λ e. absurd (omega arith)))) l1 (omega arith) v w u al ((from_row i n v u l2 there).0 from) (comes_up i a u lt h ((place_join k K G f x t j a u l1 l2 there).1 (v, (to_row i n a v l1 there).0 to, (from_row i n v u l2 there).0 from))) ad in
      (w, (r, c), al)

  row_back : (i n : ℕ) (w : State) → i < length view.specs → K (tenth_of view n) ≡ true → IsReachedPlace log i (tenth_of view n) (before_in_tenth view n) w → IsCompletedPlace log i (tenth_of view n) (before_in_tenth view n) w → (v : State) × MayPassRow view n i v × Alike (channel i).rules (pos f) w v
  row_back i n w lt there r (e, g) =
      let k = channel i in
      let x = tenth_of view n in
      let j = before_in_tenth view n in
      let (l1, l2) = tenth_within x there in
      let (v, (a, h, g1), al) = run_back k (laws i lt) known given f (before_of i) (is.before.states i lt) K (upto_place G x j) (upto_place given x j) (x + 1) (upto_in_hour x j l2) (λ q l m. sym (upto_other given x j q (λ z. absurd (omega arith)))) (omega arith) w r in
      let (u, g2, ad) = ahead_back k (laws i lt) known given f t end inside (Up i) (after_of i) (admitted i lt) K (from_place G x j) (from_place given x j) x (from_in_hour x j l1) (λ q l m. sym (from_other given x j q (λ z. absurd (omega arith)))) l1 (omega arith) v w e al (λ u g2. comes_up i a u lt h ((place_join k K G f x t j a u l1 l2 there).1 (v, g1, g2))) g in
      (v, ((a, h, (to_row i n a v l1 there).1 g1), (u, (from_row i n v u l2 there).1 g2, ad)), al)

  rows_tell : HasHistory log → SeesRowPlaces s view
  rows_tell has n i small there lt =
      let x = tenth_of view n in
      let j = before_in_tenth view n in
      let (l1, l2) = tenth_within x there in
      let known_x : known x ≡ true = sym (same x l1 l2).0 ∙ there in
      let in_window : x < end = (let w = inside in omega arith) in
      record {
        to = λ v p. let (w, (r, c), al) = row_to i n v lt there p in (w, events_after log i x j w are has lt in_window known_x r c, al);
        back = λ w m. let (r, c) = after_events log i x j w lt in_window known_x m in row_back i n w lt there r c;
      }

  ends_tell : HasHistory log → SeesEndPlaces s view
  ends_tell has x i there lt =
      let (l1, l2) = tenth_within x there in
      let in_window : x < end = (let w = inside in omega arith) in
      record {
        to = λ v p. let (w, (r, c), al) = end_to i x v lt l1 l2 p in (w, end_of_one log i x w are has lt in_window r c, al);
        back = λ w m. let (r, c) = one_end log i x w lt in_window m in end_back i x w lt l1 l2 r c;
      }

  -- at the end of a tenth, all channels at once
  passed : (x : ℕ) (v : ℕ → State) → f ≤ x → x < t → PassStates view x v ↔ ((i : ℕ) → i < length view.specs → MayPass view x i (v i))
  passed x v l1 l2 = product (length view.specs) channel (tracks_are view.specs no_spec are) K G f x t (omega arith) (omega arith) before_of after_of v

  all_tell : SeesEndsOfAll s view
  all_tell x there =
      let (l1, l2) = tenth_within x there in
      let in_window : x < end = (let w = inside in omega arith) in
      record {
        to = λ v p.
            let each = (passed x v l1 l2).0 p in
            let (ws, _, all) = choose no_state (length view.specs) (λ (i : ℕ) (w : State). (IsReached log i (x + 1) w × IsCompleted log i (x + 1) w) × Alike (channel i).rules (pos f) (v i) w) (λ i lt. let (w, rc, al) = end_to i x (v i) lt l1 l2 (each i lt) in (w, (rc, al))) in
            let w = λ (i : ℕ). get_or ws i no_state in
            (w, (at_end log x w are in_window).1 (λ i lt. (all i lt).0), λ i lt. (all i lt).1);
        back = λ w m.
            let each = (at_end log x w are in_window).0 m in
            let (vs, _, all) = choose no_state (length view.specs) (λ (i : ℕ) (v : State). MayPass view x i v × Alike (channel i).rules (pos f) (w i) v) (λ i lt. let (r, c) = each i lt in let (v, p, al) = end_back i x (w i) lt l1 l2 r c in (v, (p, al))) in
            let v = λ (i : ℕ). get_or vs i no_state in
            (v, (passed x v l1 l2).1 (λ i lt. (all i lt).0), λ i lt. (all i lt).1);
      }

  -- some history agrees exactly where the hour has runs
  runs_tell : HasHistory log ↔ HasHourRuns view
  runs_tell = (
    (λ has i lt.
        let k = channel i in
        let (e, (b, bw, g)) = (history_runs log are).0 has i lt in
        let (r, g1, g2) = (agreeing_join k known given 0 f end b e (omega arith) (let w = inside in omega arith)).0 g in
        let (a, h, al) = reached_held k (laws i lt) known given f (before_of i) (is.before.states i lt) r (b, bw, g1) in
        let (u, g3, ad) = ahead_back k (laws i lt) known given f t end inside (Up i) (after_of i) (admitted i lt) K G given f same (λ q l there. refl) (omega arith) (omega arith) a r e al (λ u g3. comes_up i a u lt h g3) g2 in
        (a, u, h, g3, ad)),
    λ runs. (history_runs log are).1 (λ i lt.
        let k = channel i in
        let (a, u, h, g, ad) = runs i lt in
        let (r, (b, bw, g1), al) = held_reached k (laws i lt) known given f (before_of i) (is.before.states i lt) a h in
        let (e, g2) = ahead_on k (laws i lt) known given f t end inside (Up i) (after_of i) (admitted i lt) K G given f same (λ q l there. refl) (omega arith) (omega arith) a r u al g (comes_up i a u lt h g) ad in
        (e, (b, bw, (agreeing_join k known given 0 f end b e (omega arith) (let w = inside in omega arith)).1 (r, g1, g2)))),
  )

  passes_tell : (x : ℕ) → K x ≡ true → HasHourRuns view ↔ ((w : ℕ → State) × PassStates view x w)
  passes_tell x there =
      let (l1, l2) = tenth_within x there in (
        (λ runs.
            let (ws, _, all) = choose no_state (length view.specs) (λ (i : ℕ) (w : State). MayPass view x i w) (λ i lt. let (a, u, h, g, ad) = runs i lt in let (v, g1, g2) = (agreeing_join (channel i) K G f (x + 1) t a u (omega arith) (omega arith)).0 g in (v, ((a, h, g1), (u, g2, ad)))) in
            let w = λ (i : ℕ). get_or ws i no_state in
            (w, (passed x w l1 l2).1 all)),
        λ (w, p) i lt. let ((a, h, g1), (u, g2, ad)) = (passed x w l1 l2).0 p i lt in (a, u, h, (agreeing_join (channel i) K G f (x + 1) t a u (omega arith) (omega arith)).1 (w i, g1, g2), ad),
      )

  tell : ViewsTell s view
  tell = record {
    history = record { runs = runs_tell; states = λ x there. then_iff runs_tell (passes_tell x there) };
    rows = rows_tell;
    ends = ends_tell;
    ends_of_all = all_tell;
  }

pub hours_tell : HoursTell
hours_tell s view are is = tell s view are is
