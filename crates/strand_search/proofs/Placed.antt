-- The hour of the place.
use Rattle.std.proofs.Common.{◌≡◌, refl, ap, sym, ◌∙◌, subst, inl, inr, ℕ, ◌+◌, ◌*◌, ◌/◌, ◌<◌, ◌≤◌, ◌^◌, ℤ, pos, true, List, [], length, length-take, length-drop, take, drop, get_or, Option, Some, None, arith}
use Rattle.std.proofs.lemmas.Int.{ints}
use Rattle.span_set.specs.declared.set.Span.{Span}
use Rattle.sig_base.specs.declared.values.Row.{Row}
use Rattle.gap_map.specs.declared.stretch.Stretch.{Stretch}
use Rattle.gap_map.specs.Stretches.{known_at}
use Rattle.gap_map.proofs.Following.{known_at_is, follows}
use Rattle.channel_tables.specs.declared.spec.Spec.{Spec}
use Rattle.channel_tables.specs.Spec.{rules_of}
use Rattle.channel_path.proofs.Moving.{earlier_low}
use Rattle.hour_store.specs.Store.{IsStore, Store, is_known, known_rows, rows_at}
use Rattle.board.specs.Channels.{track}
use Rattle.board.specs.History.{Event, events_at}
use Rattle.board.specs.Logs.{IsHour, end_tenth, first_tenth}
use Rattle.board.specs.Places.{IsPlace, since, upto}
use Rattle.board.proofs.Tracks.{spec_lettered}
use Rattle.board.proofs.Within.{end_is_place, known_within, row_place}
use Rattle.signal_log.specs.Points.{AreAheadsAt, ArePastsAt}
use Rattle.signal_log.proofs.Contradicting.{place_events}
use Rattle.signal_log.proofs.Hour.{SameIn}
use Rattle.signal_log.proofs.Runs.{from_same, upto_same}
use Rattle.signal_log.proofs.Stored.{hour_events, known_cut}
use Rattle.gap_ways.specs.Ways.{NoneOlder}
use Rattle.channel_ways.specs.Moves.{IsPassage}
use Rattle.board.proofs.Splitting.{begin_of}
use Rattle.strand_search.specs.declared.cut.Cut.{Cut}
use Rattle.strand_search.specs.declared.search.Asked.{Asked}
use Rattle.strand_search.specs.Crossings.{FitsCut, events_to, rows_to}
use Rattle.strand_search.specs.Parts.{IsCutOf, IsHourPart, IsPart, IsPartOf, moves_over}
use Rattle.strand_search.specs.Pieces.{on_from, up_to}
use Rattle.strand_search.specs.Points.{log_alone}
use Rattle.strand_search.specs.Runs.{IsAsked, IsPlaceAt}
use Rattle.strand_search.proofs.Counting.{since_alternate, upto_alternate}
use Rattle.strand_search.proofs.Halving.{later_events, moves_after, since_stretches, upto_stretches}
use Rattle.strand_search.proofs.Pieces.{IsWithin}
use Rattle.strand_search.proofs.Ranging.{over_order}

-- the moves around the place are a passage
pub passage_of : (d : Spec) (asked : Asked) (before : List (List Span)) (cut : Cut) (after : List (Option ℤ)) → FitsCut d asked before cut after → IsPassage (rules_of d) before (moves_over d cut.left) (moves_over d cut.right) (pos asked.at)
passage_of d asked before cut after fits =
    let (order, last) = over_order d fits.from (asked.at + 1) cut.left fits.left in
    let (onward, end) = fits.onward in
    let soon = fits.soon in
    let far = fits.end in
    record {
      low = fits.from;
      early = fits.early;
      none_older = fits.none_older;
      order = order;
      tenth = asked.at;
      same = refl;
      last = last;
      takes = begin_of (rules_of d) (asked.at + 1) (moves_over d cut.right) onward;
      onward = earlier_low (rules_of d) 0 (asked.at + 1) (moves_over d cut.right) (omega arith) onward;
      end = end;
      soon = omega arith;
    }

-- an hour's part is its rows and stretches
pub hour_is : (s : Store) (hour : ℕ) (rows : List Row) (ss : List Stretch) → IsHourPart s hour rows ss → IsHour hour rows ss
hour_is s hour rows ss part = record { are_rows = part.fit; follow = follows (is_known s) (36000 * hour) (36000 * hour + 36000) ss part.cut.stretches }

-- no state at a point was entered longer ago than 36,001 tenths before it
pub none_older : (d : Spec) (s : Store) (hour : ℕ) (pasts : List (List (List Span))) → ArePastsAt (log_alone d s) hour pasts → NoneOlder (get_or pasts 0 [])
none_older d s hour pasts at u held = elim ((at.states 0 (omega arith) u).0 held) [
  | inl (_, le) ↦ omega (arith, ints)
  | inr (same, _) ↦ omega (arith, ints)
]

module _ (d : Spec) (s : Store) (asked : Asked) (rows : List Row) (ss : List Stretch) (is : IsStore s) (ask : IsAsked s asked) (part : IsHourPart s (asked.at / 36000) rows ss) where
  abbrev x : ℕ
  x = asked.at

  abbrev hour : ℕ
  hour = asked.at / 36000

  abbrev f : ℕ
  f = first_tenth (asked.at / 36000)

  abbrev t : ℕ
  t = end_tenth (asked.at / 36000)

  abbrev n : ℕ
  n = rows_to rows asked.at asked.before

  low : f ≤ x
  low = omega arith

  high : x < t
  high = omega arith

  in_window : hour < length s.hours
  in_window = let w = ask.within in omega arith

  known_here : known_at ss x ≡ true
  known_here = known_cut s hour x ss part.cut low high ∙ ask.is_known

  place_by : (o : Option ℕ) → IsPlaceAt rows x o → IsPlace f t rows ss x (rows_to rows x o)
  place_by None p = (end_is_place hour x rows ss (hour_is s hour rows ss part) known_here).0
  place_by (Some i) (within, at) = subst (λ (y : ℕ). IsPlace f t rows ss y i) at (row_place hour i rows ss (hour_is s hour rows ss part) within (subst (λ (y : ℕ). known_at ss y ≡ true) (sym at) known_here))

  pub place_here : IsPlace f t rows ss x n
  place_here = place_by asked.before (subst (λ (rs : List Row). IsPlaceAt rs x asked.before) (sym part.rows_are) ask.place)

  few : length rows < 2 ^ 32
  few = let q = part.fit.few in omega arith

  left_is : IsPart f (x + 1) (take n rows) (upto x ss)
  left_is = record {
    follow = follows (is_known s) f (x + 1) (upto x ss) (upto_stretches (is_known s) f t x ss part.cut.stretches low high);
    rows_in = place_here.before;
    alternate = upto_alternate x ss part.cut.alternate;
    few = (let e = length-take n rows in let q = few in omega arith);
  }

  right_is : IsPart x t (drop n rows) (since x ss)
  right_is = record {
    follow = follows (is_known s) x t (since x ss) (since_stretches (is_known s) f t x ss part.cut.stretches low high);
    rows_in = place_here.after;
    alternate = since_alternate x ss part.cut.alternate;
    few = (let e = length-drop n rows in let q = few in omega arith);
  }

  base : ℕ → List Event
  base = events_at (known_rows s)

  events_same : (y : ℕ) → f ≤ y → y < t → is_known s y ≡ true → events_at rows y ≡ events_at (known_rows s) y
  events_same y l1 l2 there = ap (λ (rs : List Row). events_at rs y) part.rows_are ∙ sym (hour_events s hour y (rows_at s hour) is in_window refl l1 l2 there)

  events_count : events_to s asked ≡ length (events_at (take n rows) x)
  events_count = ap (λ (rs : List Row). length (events_at (take (rows_to rs x asked.before) rs) x)) (sym part.rows_are)

  left_same : SameIn (known_at (upto x ss)) (events_at (take n rows)) (is_known s) (up_to (events_at (known_rows s)) x (events_to s asked)) f (x + 1)
  left_same y l1 l2 = (
    known_at_is (is_known s) f (x + 1) y (upto x ss) (upto_stretches (is_known s) f t x ss part.cut.stretches low high) l1 l2,
    λ there. rw events_count (sym (place_events rows n x t y place_here.after l2) ∙ upto_same (events_at rows) (events_at (known_rows s)) x (length (events_at (take n rows) x)) y (events_same y l1 (let h = high in omega arith) there)),
  )

  right_same : SameIn (known_at (since x ss)) (events_at (drop n rows)) (is_known s) (on_from (events_at (known_rows s)) x (events_to s asked)) x t
  right_same y l1 l2 = (
    known_at_is (is_known s) x t y (since x ss) (since_stretches (is_known s) f t x ss part.cut.stretches low high) l1 l2,
    λ there. rw events_count (later_events rows n f x y place_here.before l1 ∙ from_same (events_at rows) (events_at (known_rows s)) x (length (events_at (take n rows) x)) y (events_same y (let l = low in omega arith) l2 there)),
  )

  module _ (cut : Cut) (c : IsCutOf rows ss asked.at n cut) where
    pub left_part : IsPartOf f (x + 1) cut.left
    left_part = subst (λ (rs : List Row). IsPart f (x + 1) rs cut.left.stretches.items) (sym c.left_rows) (subst (λ (zs : List Stretch). IsPart f (x + 1) (take n rows) zs) (sym c.left_stretches) left_is)

    pub right_part : IsPartOf x t cut.right
    right_part = subst (λ (rs : List Row). IsPart x t rs cut.right.stretches.items) (sym c.right_rows) (subst (λ (zs : List Stretch). IsPart x t (drop n rows) zs) (sym c.right_stretches) right_is)

    pub left_tells : SameIn (known_at cut.left.stretches.items) (events_at cut.left.rows.now) (is_known s) (up_to (events_at (known_rows s)) x (events_to s asked)) f (x + 1)
    left_tells = subst (λ (rs : List Row). SameIn (known_at cut.left.stretches.items) (events_at rs) (is_known s) (up_to (events_at (known_rows s)) x (events_to s asked)) f (x + 1)) (sym c.left_rows) (subst (λ (zs : List Stretch). SameIn (known_at zs) (events_at (take n rows)) (is_known s) (up_to (events_at (known_rows s)) x (events_to s asked)) f (x + 1)) (sym c.left_stretches) left_same)

    pub right_tells : SameIn (known_at cut.right.stretches.items) (events_at cut.right.rows.now) (is_known s) (on_from (events_at (known_rows s)) x (events_to s asked)) x t
    right_tells = subst (λ (rs : List Row). SameIn (known_at cut.right.stretches.items) (events_at rs) (is_known s) (on_from (events_at (known_rows s)) x (events_to s asked)) x t) (sym c.right_rows) (subst (λ (zs : List Stretch). SameIn (known_at zs) (events_at (drop n rows)) (is_known s) (on_from (events_at (known_rows s)) x (events_to s asked)) x t) (sym c.right_stretches) right_same)

    pub left_within : IsWithin (known_at cut.left.stretches.items) f (x + 1)
    left_within y there = known_within f (x + 1) y cut.left.stretches.items left_part.follow there

    pub right_within : IsWithin (known_at cut.right.stretches.items) x t
    right_within y there = known_within x t y cut.right.stretches.items right_part.follow there

    pub fits_cut : (pasts : List (List (List Span))) (aheads : List (List (Option ℤ))) → ArePastsAt (log_alone d s) (asked.at / 36000) pasts → AreAheadsAt (log_alone d s) (asked.at / 36000 + 1) aheads → FitsCut d asked (get_or pasts 0 []) cut (get_or aheads 0 [])
    fits_cut pasts aheads at af =
        let hours = part.fit.in_range in
        let (order, end) = moves_after (track d) (is_known s) x t (drop n rows) (since x ss) (spec_lettered d) ask.is_known high (since_stretches (is_known s) f t x ss part.cut.stretches low high) right_is.follow right_is.rows_in in
        record {
          from = f;
          to = t;
          left = left_part;
          right = right_part;
          onward = rw (c.right_rows, c.right_stretches) (order, omega arith);
          end = omega arith;
          soon = high;
          early = at.early 0;
          none_older = none_older d s hour pasts at;
          some = (at.shape.1 0 d (omega arith)).1;
          colours = (at.shape.1 0 d (omega arith)).0;
          ahead = af.shape.1 0 d (omega arith);
        }
