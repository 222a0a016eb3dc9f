-- The run over the whole window.
use Rattle.std.proofs.Common.{◌≡◌, refl, ap, sym, ◌∙◌, subst, inl, inr, ℕ, ◌+◌, ◌*◌, ◌/◌, ◌<◌, ◌≤◌, pos, Bool, true, false, List, [], ◌∷◌, ◌++◌, length, take, drop, take_all, get_or, reverse, Option, Some, None, arith}
use Rattle.std.proofs.lemmas.Bool.{cases_eq}
use Rattle.std.proofs.lemmas.Int.{ints}
use Rattle.std.proofs.lemmas.List.{reverse-append}
use Rattle.span_set.specs.declared.set.Span.{Span}
use Rattle.std.specs.Prelude.{option_map}
use Rattle.sig_base.specs.declared.values.Row.{Row}
use Rattle.sig_base.specs.HourRows.{Shown}
use Rattle.channel_tables.specs.declared.spec.Spec.{Spec}
use Rattle.channel_tables.specs.Spec.{rules_of}
use Rattle.reach.specs.Runs.{State, Steps, state}
use Rattle.reach.specs.Past.{Holds}
use Rattle.hour_store.specs.Store.{IsStore, Store, held_at, is_known, known_rows, rows_at}
use Rattle.board.specs.Channels.{AreSpecs, track}
use Rattle.board.specs.History.{Agreeing, Event, Track, events_at, letters}
use Rattle.board.specs.Logs.{end_tenth, first_tenth}
use Rattle.board.specs.Moves.{RowsIn}
use Rattle.board.proofs.Bridge.{agreeing_same, cut_rows}
use Rattle.signal_log.specs.Log.{IsBeforeWindow}
use Rattle.signal_log.specs.Points.{ArePastsAt, rows_or_none}
use Rattle.signal_log.proofs.Hour.{reached_colour}
use Rattle.signal_log.proofs.Runs.{alike_later, from_here, from_other, place_join, to_place, upto_here, upto_other}
use Rattle.signal_log.proofs.Stored.{hour_events, rows_join}
use Rattle.gap_ways.specs.Choices.{Answers}
use Rattle.gap_ways.specs.Ways.{state_of}
use Rattle.strand_search.specs.Fillings.{AreUnknown}
use Rattle.strand_search.proofs.Agreeing.{join_early, join_late, unknown_join}
use Rattle.board.proofs.Within.{rise_rows}
use Rattle.board.proofs.Plain.{agreeing_early}
use Rattle.strand_search.specs.declared.crossing.Crossing.{Crossing}
use Rattle.strand_search.specs.declared.search.Asked.{Asked}
use Rattle.strand_search.specs.declared.search.Found.{Found}
use Rattle.strand_search.specs.Crossings.{AddsHours, AddsHoursBack, IsCrossed, LeadsOn, LeadsTo, events_to, rows_to}
use Rattle.strand_search.specs.Pieces.{mixed, on_from, up_to}
use Rattle.strand_search.specs.Points.{ArePastsUpTo, log_alone, past_at}
use Rattle.strand_search.specs.Runs.{ComesTo, IsAsked, IsFound, IsPlaceAt, end_of, rows_around, stands, start_of, test_of}
use Rattle.signal_log.specs.Rows.{rows_before}
use Rattle.strand_search.proofs.Coming.{alike_tell, answers_same}
use Rattle.strand_search.proofs.Counting.{few_join, known_apart, point_apart}
use Rattle.strand_search.proofs.Pieces.{letters_join, piece_alike, piece_given, piece_join}
use Rattle.strand_search.proofs.Stepping.{held_colour, machine_laws}

-- a state with which a window starts
start_before : (d : Spec) (s : Store) (pasts : List (List (List Span))) (u : State) → AreSpecs (d ∷ []) → ArePastsAt (log_alone d s) 0 pasts → Holds (get_or pasts 0 []) u → IsBeforeWindow (rules_of d) u
start_before d s pasts u are at held = elim ((at.states 0 (omega arith) u).0 held) [
  | inl ((a, before, run), _) ↦
      let colour = reached_colour (track d) (is_known s) (events_at (known_rows s)) (first_tenth 0) u (machine_laws d are) (a, before, run) in
      let early = agreeing_early (track d) (is_known s) (events_at (known_rows s)) 0 (first_tenth 0) a u run before.1 in
      (colour, omega (arith, ints))
  | inr (e, (y, (a, before, run), lt)) ↦
      let colour = reached_colour (track d) (is_known s) (events_at (known_rows s)) (first_tenth 0) (state u.colour y) (machine_laws d are) (a, before, run) in
      (colour, omega (arith, ints))
]

-- rows after a known tenth, where none of them stands at a known one
rows_past : (known : ℕ → Bool) (x t : ℕ) (rs : List Row) → known x ≡ true → x < t → RowsIn x t rs → AreUnknown known rs → RowsIn (x + 1) t rs
rows_past known x t [] is lt h u = omega arith
rows_past known x t (r ∷ rs) is lt (low, high, rest) (none, u) = elim (cases_eq r.at x) [
  | inl same ↦ let bad : true ≡ false = sym is ∙ (ap known (sym same) ∙ none) in absurd (cc)
  | inr other ↦ (omega arith, high, rest)
]

-- the rows of an hour are in it
hold_by : (s : Store) (hour : ℕ) (o : Option Shown) → IsStore s → held_at s hour ≡ o → RowsIn (first_tenth hour) (end_tenth hour) (rows_or_none (option_map (λ h. h.rows) o))
hold_by s hour None is e = omega arith
hold_by s hour (Some h) is e = rise_rows (first_tenth hour) (end_tenth hour) h.rows (omega arith) (is.in_place hour h e).rows_are.rise

rows_hold : (s : Store) (hour : ℕ) → IsStore s → RowsIn (first_tenth hour) (end_tenth hour) (rows_or_none (rows_at s hour))
rows_hold s hour is = hold_by s hour (held_at s hour) is refl

module _ (d : Spec) (s : Store) (asked : Asked) (is : IsStore s) (ask : IsAsked s asked) where
  abbrev k : Track
  k = track d

  abbrev x : ℕ
  x = asked.at

  abbrev j : ℕ
  j = events_to s asked

  abbrev known : ℕ → Bool
  known = is_known s

  abbrev base : ℕ → List Event
  base = events_at (known_rows s)

  -- ---- what stands before the place, and after it
  here_known : (given : ℕ → List Event) (rs : List Row) → mixed (is_known s) given rs asked.at ≡ given asked.at
  here_known given rs = rw ask.is_known refl

  mixed_all : (given other : ℕ → List Event) (rs all : List Row) (y : ℕ) → given y ≡ other y → events_at rs y ≡ events_at all y → mixed (is_known s) given rs y ≡ mixed (is_known s) other all y
  mixed_all given other rs all y e q = rw (e, q) refl

  module _ (xs ys : List Row) (early : RowsIn 0 (asked.at + 1) xs) (late : RowsIn (asked.at + 1) (36000 * length s.hours) ys) where
    stands_left : (y : ℕ) → y < x + 1 → mixed (is_known s) (up_to (events_at (known_rows s)) asked.at (events_to s asked)) xs y ≡ up_to (stands s (xs ++ ys)) asked.at (events_to s asked) y
    stands_left y lt = elim (cases_eq y x) [
      | inl e ↦ rw e (here_known (up_to base x j) xs ∙ (upto_here base x j ∙ (ap (λ (es : List Event). take j es) (sym (here_known base (xs ++ ys))) ∙ sym (upto_here (stands s (xs ++ ys)) x j))))
      | inr ne ↦ mixed_all (up_to base x j) base xs (xs ++ ys) y (upto_other base x j y ne) (sym (join_early 0 (x + 1) (36000 * length s.hours) y xs ys late lt)) ∙ sym (upto_other (stands s (xs ++ ys)) x j y ne)
    ]

    stands_right : (y : ℕ) → x ≤ y → mixed (is_known s) (on_from (events_at (known_rows s)) asked.at (events_to s asked)) ys y ≡ on_from (stands s (xs ++ ys)) asked.at (events_to s asked) y
    stands_right y le = elim (cases_eq y x) [
      | inl e ↦ rw e (here_known (on_from base x j) ys ∙ (from_here base x j ∙ (ap (λ (es : List Event). drop j es) (sym (here_known base (xs ++ ys))) ∙ sym (from_here (stands s (xs ++ ys)) x j))))
      | inr ne ↦ mixed_all (on_from base x j) base ys (xs ++ ys) y (from_other base x j y ne) (sym (join_late 0 (x + 1) y xs ys early (omega arith))) ∙ sym (from_other (stands s (xs ++ ys)) x j y ne)
    ]

    run_left : (a v : State) → Agreeing (track d) (λ y. true) (mixed (is_known s) (up_to (events_at (known_rows s)) asked.at (events_to s asked)) xs) 0 (asked.at + 1) a v → Agreeing (track d) (λ y. true) (up_to (stands s (xs ++ ys)) asked.at (events_to s asked)) 0 (asked.at + 1) a v
    run_left a v run = agreeing_same k (λ y. true) (λ y. true) _ (up_to (stands s (xs ++ ys)) x j) 0 (x + 1) a v (λ y l1 l2. refl) (λ y l1 l2. stands_left y l2) run

    run_right : (v u : State) → Agreeing (track d) (λ y. true) (mixed (is_known s) (on_from (events_at (known_rows s)) asked.at (events_to s asked)) ys) asked.at (36000 * length s.hours) v u → Agreeing (track d) (λ y. true) (on_from (stands s (xs ++ ys)) asked.at (events_to s asked)) asked.at (36000 * length s.hours) v u
    run_right v u run = agreeing_same k (λ y. true) (λ y. true) _ (on_from (stands s (xs ++ ys)) x j) x (36000 * length s.hours) v u (λ y l1 l2. refl) (λ y l1 l2. stands_right y l1) run

  -- ---- the state at the place
  rows_here : base x ≡ events_at (rows_around s x) x
  rows_here = hour_events s (x / 36000) x (rows_at s (x / 36000)) is (let w = ask.within in omega arith) refl (omega arith) (omega arith) ask.is_known

  all_here : (rs : List Row) → stands s rs x ≡ events_at (rows_around s x) x
  all_here rs = here_known base rs ∙ rows_here

  whole_tenth : asked.before ≡ None → events_at (take (rows_to (rows_around s asked.at) asked.at asked.before) (rows_around s asked.at)) asked.at ≡ events_at (rows_around s asked.at) asked.at
  whole_tenth e =
      let rows = rows_around s x in
      let (k1, k2, k3, k4) = cut_rows (first_tenth (x / 36000)) (x + 1) (end_tenth (x / 36000)) rows (omega arith) (omega arith) (rows_hold s (x / 36000) is) in
      rw e (sym (k3 x (omega arith)))

  comes : (rs : List Row) (o : Option ℕ) (a v : State) → asked.before ≡ o → IsPlaceAt (rows_around s asked.at) asked.at o → Agreeing (track d) (λ y. true) (up_to (stands s rs) asked.at (events_to s asked)) 0 (asked.at + 1) a v → ComesTo d s rs asked.at o a v
  comes rs None a v e p run = agreeing_same k (λ y. true) (λ y. true) (up_to (stands s rs) x j) (stands s rs) 0 (x + 1) a v (λ y l1 l2. refl) (λ y l1 l2. elim (cases_eq y x) [
    | inl same ↦ rw same (upto_here (stands s rs) x j ∙ take_all j (stands s rs x) (let all = all_here rs in let size = ap (λ (es : List Event). length es) (all_here rs) in let count = ap (λ (es : List Event). length es) (whole_tenth e) in omega arith))
    | inr other ↦ upto_other (stands s rs) x j y other
  ]) run
  comes rs (Some n) a v e (within, tenth) run =
      let (b, first, last) = (to_place k (λ y. true) (stands s rs) 0 x j a v (omega arith) refl).0 run in
      let rows = rows_around s x in
      let count : j ≡ rows_before rows n = ap (λ (o : Option ℕ). length (events_at (take (rows_to rows x o) rows) x)) e ∙ ap (λ (y : ℕ). length (events_at (take n rows) y)) (sym tenth) in
      (b, first, subst (λ (m : ℕ). Steps k.rules (pos x) b (letters k (take m (stands s rs x))) v) count last)

  -- ---- all of it
  pub whole : (found : Found) (xs ys : List Row) (a v u : State) → found.fills.items ≡ xs ++ ys → start_of found ≡ a → IsBeforeWindow (rules_of d) a → LeadsTo d s asked 0 xs a v → Answers asked.met (test_of asked) v → LeadsOn d s asked (end_of s) ys v u → IsFound d s asked found
  whole found xs ys a v u fills start before p answers q =
      let within = ask.within in
      let late = rows_past (is_known s) x (end_of s) ys ask.is_known within q.order q.unknown in
      let left = run_left xs ys p.order late a v p.run in
      let right = run_right xs ys p.order late v u q.run in
      record {
        start = subst (λ (z : State). IsBeforeWindow (rules_of d) z) (sym start) before;
        order = rw fills (rows_join 0 (x + 1) (end_of s) xs ys p.order late);
        unknown = rw fills (unknown_join (is_known s) xs ys p.unknown q.unknown);
        letters = rw fills (letters_join k xs ys p.letters q.letters);
        few = rw fills (few_join (is_known s) 0 (x + 1) (end_of s) xs ys (known_apart (is_known s) x ask.is_known) p.order late p.few q.few);
        legal = (u, rw (fills, start) ((place_join k (λ y. true) (stands s (xs ++ ys)) 0 x (end_of s) j a u (omega arith) within refl).1 (v, left, right)));
        answer = (v, rw (fills, start) (comes (xs ++ ys) asked.before a v refl ask.place left), answers);
      }

  -- the hours before that of the place, its own, and those after it
  pub run_over : (hour : ℕ) (found : Found) (pasts : List (List (List (List Span)))) (way : Crossing) (back_rows on_rows : List Row) (a u : State) → AreSpecs (d ∷ []) → asked.at / 36000 ≡ hour → ArePastsUpTo d s hour pasts → IsCrossed d s asked (get_or pasts (asked.at / 36000) []) way → Holds (past_at pasts 0) a → AddsHoursBack d s 0 hour way.earlier.items back_rows a (state_of way.before) → AddsHours d s (hour + 1) (length s.hours) way.later.items on_rows (state_of way.after.state) u → found.fills.items ≡ reverse back_rows ++ on_rows → start_of found ≡ a → IsFound d s asked found
  run_over hour found pasts way back_rows on_rows a u are e (size, at) crossed held (w, like, (qs, p, first)) (ps, q, last) fills start =
      let laws = machine_laws d are in
      let f = first_tenth hour in
      let t = first_tenth (hour + 1) in
      let low : f ≤ x = omega arith in
      let high : x < t = omega arith in
      let before = state_of way.before in
      let here = crossed.here in
      let after = state_of way.after.state in
      let there = subst (λ (h : ℕ). Holds (get_or (get_or pasts h []) 0 []) before) e crossed.held in
      let colour = held_colour d s hour (get_or pasts hour []) before (at hour (omega arith)) there in
      let left0 = subst (λ (h : ℕ). LeadsTo d s asked (first_tenth h) (reverse way.earlier.items) before here) e crossed.left in
      let right0 = subst (λ (h : ℕ). LeadsOn d s asked (first_tenth (h + 1)) way.later.items here after) e crossed.right in
      let (v, left, alike) = piece_alike k known (up_to base x j) f (x + 1) (reverse way.earlier.items) before here w laws (colour, like.0, like.1) left0 in
      let (same, bound) = alike_tell k.rules (pos f) (pos x) here v asked.bound alike (omega (arith, ints)) ask.bound in
      let answers = answers_same asked.met (test_of asked) here v same bound crossed.answers in
      let first2 = piece_given k known base (up_to base x j) (first_tenth 0) f (reverse qs) a w (λ y l1 l2 there. sym (upto_other base x j y (λ z. absurd (omega arith)))) first in
      let lefts = piece_join k known (up_to base x j) (first_tenth 0) f (x + 1) (reverse qs) (reverse way.earlier.items) a w v (point_apart known hour) first2 left in
      let zero : first_tenth 0 ≡ 0 = omega arith in
      let (b, right, alike2) = piece_alike k known (on_from base x j) x t way.later.items here after v laws (alike_later k.rules (pos f) (pos x) here v (omega (arith, ints)) alike) right0 in
      let (u2, last2, _) = piece_alike k known base t (first_tenth (length s.hours)) ps after u b laws (alike_later k.rules (pos x) (pos t) after b (omega (arith, ints)) alike2) last in
      let last3 = piece_given k known base (on_from base x j) t (first_tenth (length s.hours)) ps b u2 (λ y l1 l2 there. sym (from_other base x j y (λ z. absurd (omega arith)))) last2 in
      let rights = piece_join k known (on_from base x j) x t (first_tenth (length s.hours)) way.later.items ps v b u2 (point_apart known (hour + 1)) right last3 in
      let rows : (reverse back_rows ++ on_rows) ≡ ((reverse qs ++ reverse way.earlier.items) ++ (way.later.items ++ ps)) = ap (λ (z : List Row). reverse z ++ on_rows) p ∙ (ap (λ (z : List Row). z ++ on_rows) (reverse-append way.earlier.items qs) ∙ ap (λ (z : List Row). (reverse qs ++ reverse way.earlier.items) ++ z) q) in
      whole found (reverse qs ++ reverse way.earlier.items) (way.later.items ++ ps) a v u2 (fills ∙ rows) start (start_before d s (get_or pasts 0 []) a are (at 0 (omega arith)) held) (subst (λ (y : ℕ). LeadsTo d s asked y (reverse qs ++ reverse way.earlier.items) a v) zero lefts) answers rights
