-- One hour before that of the place, or after it.
use Rattle.std.proofs.Common.{◌≡◌, refl, ap, sym, ◌∙◌, subst, ◌⊎◌, inl, inr, ℕ, ◌+◌, ◌*◌, ◌<◌, ◌≤◌, ◌^◌, ℤ, pos, negsuc, ◌+ℤ◌, ◌-ℤ◌, ◌≤ℤ◌, ◌<ℤ◌, Bool, true, List, [], ◌∷◌, ◌++◌, append_assoc, append-nil, length, get_or, reverse, Option, arith}
use Rattle.std.proofs.lemmas.Int.{ints}
use Rattle.std.proofs.lemmas.List.{reverse-append}
use Rattle.span_set.specs.declared.set.Span.{Span}
use Rattle.colour_machine.specs.Rules.{IsMachine}
use Rattle.sig_base.specs.declared.values.Row.{Row}
use Rattle.gap_map.specs.Stretches.{known_at}
use Rattle.channel_tables.specs.declared.spec.Spec.{Spec}
use Rattle.channel_tables.specs.Spec.{rules_of}
use Rattle.channel_tables.proofs.Machines.{spec_machine}
use Rattle.reach.specs.Runs.{State, state}
use Rattle.reach.specs.Past.{Holds}
use Rattle.reach.specs.Ahead.{Admits}
use Rattle.reach.proofs.States.{in_sets}
use Rattle.channel_path.specs.Walks.{BeforeMoves}
use Rattle.hour_store.specs.Store.{IsStore, Store, is_known, known_rows, rows_at}
use Rattle.board.specs.Channels.{AreSpecs, track}
use Rattle.board.specs.History.{Agreeing, Event, Track, events_at}
use Rattle.board.specs.Hours.{Clamped, IsAfterHour}
use Rattle.board.specs.Logs.{end_tenth, first_tenth}
use Rattle.board.proofs.Bridge.{agreeing_join, agreeing_none, own_walk}
use Rattle.board.proofs.Plain.{after_hour, agreeing_early}
use Rattle.board.proofs.Within.{hour_rows, known_within}
use Rattle.signal_log.specs.Log.{IsBeforeWindow}
use Rattle.signal_log.specs.Points.{AreAheadsAt, ArePastsAt}
use Rattle.signal_log.proofs.Hour.{SameIn, after_point, cut_tells, run_in}
use Rattle.signal_log.proofs.Runs.{agreeing_colour, alike_later}
use Rattle.gap_ways.specs.declared.states.Entered.{Entered}
use Rattle.gap_ways.specs.Ways.{state_of}
use Rattle.channel_ways.specs.Moves.{Alike as Like, ClampedAfter, IsAlone}
use Rattle.channel_ways.specs.declared.passage.Passing.{Passing}
use Rattle.strand_search.specs.declared.part.Part.{Part}
use Rattle.strand_search.specs.Crossings.{AddsHours, AddsHoursBack, GoesOn}
use Rattle.strand_search.specs.Parts.{GoOn, IsHourPart, IsPartOf, moves_over}
use Rattle.strand_search.specs.Pieces.{AddsAlike, AddsPiece, Piece}
use Rattle.strand_search.specs.Points.{log_alone}
use Rattle.strand_search.proofs.Counting.{point_apart}
use Rattle.strand_search.proofs.Pieces.{IsWithin, piece_alike, piece_in, piece_join}
use Rattle.strand_search.proofs.Placed.{hour_is}
use Rattle.strand_search.proofs.Ranging.{over_order}

-- a state that can be completed and stands alone
pub next_here : (d : Spec) (s : Store) (k : ℕ) (aheads : List (List (Option ℤ))) (here : Passing) → AreAheadsAt (log_alone d s) k aheads → Admits (get_or aheads 0 []) (state_of here.state) → IsAlone here.only here.state → length here.only ≡ (rules_of d).colours → negsuc (2 ^ 39) ≤ℤ here.state.entry → GoesOn d s k here
next_here d s k aheads here af admits alone colours late =
    let (colour, early, completed) = (af.states 0 (omega arith) (state_of here.state)).0 admits in
    record { alone = record { alone = alone; colours = colours; early = early; late = late }; completed = completed; colour = colour }

pub machine_laws : (d : Spec) → AreSpecs (d ∷ []) → IsMachine (track d).rules
machine_laws d are = spec_machine d (are.fit 0 d (omega arith))

module _ (d : Spec) (s : Store) (hour : ℕ) (p : Part) (is : IsStore s) (within : hour < length s.hours) (part : IsHourPart s hour p.rows.now p.stretches.items) where
  abbrev f : ℕ
  f = first_tenth hour

  abbrev t : ℕ
  t = end_tenth hour

  pub hour_part_is : IsPartOf f t p
  hour_part_is = record {
    follow = (hour_is s hour p.rows.now p.stretches.items part).follow;
    rows_in = hour_rows hour p.rows.now p.stretches.items (hour_is s hour p.rows.now p.stretches.items part);
    alternate = part.cut.alternate;
    few = (let q = part.fit.few in omega arith);
  }

  hour_same : SameIn (known_at p.stretches.items) (events_at p.rows.now) (is_known s) (events_at (known_rows s)) f t
  hour_same = subst (λ (rs : List Row). SameIn (known_at p.stretches.items) (events_at rs) (is_known s) (events_at (known_rows s)) f t) (sym part.rows_are) (cut_tells s hour (rows_at s hour) p.stretches.items is within refl part.cut)

  hour_within : IsWithin (known_at p.stretches.items) f t
  hour_within y there = known_within f t y p.stretches.items hour_part_is.follow there

  pub hour_soon : t ≤ 2 ^ 32
  hour_soon = let q = part.fit.in_range in omega arith

  pub hour_goes_on : GoOn (rules_of d) f (moves_over d p)
  hour_goes_on = let (order, end) = over_order d f t p hour_part_is in (order, (let q = part.fit.in_range in omega arith))

  next : t ≡ first_tenth (hour + 1)
  next = omega arith

  pub hour_adds : (old new : List Row) (a b : State) → AddsPiece (track d) (known_at p.stretches.items) (events_at p.rows.now) f t old new a b → AddsHours d s hour (hour + 1) old new a b
  hour_adds old new a b (qs, e, piece) = (qs, e, subst (λ (y : ℕ). Piece (track d) (is_known s) (events_at (known_rows s)) f y qs a b) next (piece_in (track d) (known_at p.stretches.items) (is_known s) (events_at p.rows.now) (events_at (known_rows s)) f t qs a b hour_within hour_same piece))

  pub hour_adds_back : (q : ℤ) (old new : List Row) (a b : State) → q ≡ pos (first_tenth (hour + 1)) → AddsAlike (track d) (known_at p.stretches.items) (events_at p.rows.now) f t q old new a b → AddsHoursBack d s hour (hour + 1) old new a b
  hour_adds_back q old new a b point (w, like, (qs, e, piece)) = (w, subst (λ (z : ℤ). Like z b w) point like, (qs, e, subst (λ (y : ℕ). Piece (track d) (is_known s) (events_at (known_rows s)) f y (reverse qs) a w) next (piece_in (track d) (known_at p.stretches.items) (is_known s) (events_at p.rows.now) (events_at (known_rows s)) f t (reverse qs) a w hour_within hour_same piece)))

  -- from a state that goes on, the hour's moves lead to one that can be completed
  pub hour_completes : (aheads : List (List (Option ℤ))) (here : Passing) → AreSpecs (d ∷ []) → AreAheadsAt (log_alone d s) (hour + 1) aheads → GoesOn d s hour here → BeforeMoves (rules_of d) (get_or aheads 0 []) (moves_over d p) (state_of here.state)
  hour_completes aheads here are af goes =
      let k = track d in
      let z = state_of here.state in
      let (e, run) = goes.completed in
      let (w, first, last) = (agreeing_join k (is_known s) (events_at (known_rows s)) f t (36000 * length s.hours) z e (omega arith) (omega arith)).0 run in
      let own_run = (run_in k (known_at p.stretches.items) (events_at p.rows.now) (is_known s) (events_at (known_rows s)) f t f t z w hour_same (omega arith) (omega arith)).1 first in
      let walk = (own_walk k (known_at p.stretches.items) (events_at p.rows.now) f t 0 p.rows.now p.stretches.items z w hour_part_is.follow hour_part_is.rows_in (λ x l1 l2. refl) (λ x l1 l2. refl)).0 own_run in
      let colour = (agreeing_colour k (is_known s) (events_at (known_rows s)) f t z w (machine_laws d are) first).0 goes.colour in
      let early = agreeing_early k (is_known s) (events_at (known_rows s)) f t z w first goes.alone.early in
      (w, walk, (af.states 0 (omega arith) w).1 (colour, subst (λ (y : ℕ). w.entry <ℤ pos y) next early, subst (λ (y : ℕ). (u : State) × Agreeing k (is_known s) (events_at (known_rows s)) y (36000 * length s.hours) w u) next (e, last)))

  -- a state at the point after the hour comes from one before it
  pub hour_reached : (before after : List (List (List Span))) (limit : ℤ) (target : Entered) → AreSpecs (d ∷ []) → ArePastsAt (log_alone d s) hour before → ArePastsAt (log_alone d s) (hour + 1) after → limit ≡ (pos (first_tenth (hour + 1)) -ℤ pos 36001) → Holds (get_or after 0 []) (state_of target) → ClampedAfter (rules_of d) (get_or before 0 []) (moves_over d p) limit (state_of target)
  hour_reached before after limit target are at there point held =
      let k = track d in
      let u = state_of target in
      let past = get_or before 0 [] in
      let rows = p.rows.now in
      let ss = p.stretches.items in
      let clamped = (there.states 0 (omega arith) u).0 held in
      let here = subst (λ (y : ℕ). Clamped (pos y -ℤ pos 36001) (λ (v : State). (a : State) × IsBeforeWindow k.rules a × Agreeing k (is_known s) (events_at (known_rows s)) 0 y a v) u) (sym next) clamped in
      let back = (after_point k (is_known s) (events_at (known_rows s)) f t rows ss past (machine_laws d are) (omega arith) hour_same (at.states 0 (omega arith)) u).1 here in
      let same : (pos t -ℤ pos 36001) ≡ limit = ap (λ (y : ℕ). pos y -ℤ pos 36001) next ∙ sym point in
      let limited = subst (λ (z : ℤ). Clamped z (IsAfterHour k rows ss f t past) u) same back in
      let moves = λ (v : State). (after_hour k f t rows ss past hour_part_is.follow hour_part_is.rows_in v).1 in
      elim limited [
        | inl (h, le) ↦ inl (moves u h, le)
        | inr (e, (y, h, lt)) ↦ inr (e, (y, moves (state u.colour y) h, lt))
      ]

-- ---- one hour after another
piece_none : (k : Track) (known : ℕ → Bool) (given : ℕ → List Event) (f : ℕ) (a : State) → Piece k known given f f [] a a
piece_none k known given f a = record {
  order = omega arith;
  unknown = tt;
  letters = tt;
  few = λ hour x y low high none. omega arith;
  run = (agreeing_none k (λ x. true) _ f a a).1 refl;
}

pub hours_none : (d : Spec) (s : Store) (h : ℕ) (old : List Row) (a : State) → AddsHours d s h h old old a a
hours_none d s h old a = ([], sym (append-nil old), piece_none (track d) (is_known s) (events_at (known_rows s)) (first_tenth h) a)

pub hours_more : (d : Spec) (s : Store) (from h to : ℕ) (old mid new : List Row) (a b c : State) → AddsHours d s from h old mid a b → AddsHours d s h to mid new b c → AddsHours d s from to old new a c
hours_more d s from h to old mid new a b c (qs, e, first) (ps, q, last) = (
  qs ++ ps,
  q ∙ (ap (λ (z : List Row). z ++ ps) e ∙ append_assoc old qs ps),
  piece_join (track d) (is_known s) (events_at (known_rows s)) (first_tenth from) (first_tenth h) (first_tenth to) qs ps a b c (point_apart (is_known s) h) first last,
)

like_join : (p : ℤ) (a b c : State) → Like p a b → Like p b c → Like p a c
like_join p a b c (e, k) (q, l) = (
  q ∙ e,
  elim k [
    | inl same ↦ subst (λ (z : State). (c ≡ z) ⊎ (((z.entry +ℤ pos 36001) ≤ℤ p) × ((c.entry +ℤ pos 36001) ≤ℤ p))) same l
    | inr (x, y) ↦ elim l [ inl same ↦ inr (x, subst (λ (z : State). (z.entry +ℤ pos 36001) ≤ℤ p) (sym same) y) | inr (z, w) ↦ inr (x, w) ]
  ],
)

-- a state that is held has one of the machine's colours
pub held_colour : (d : Spec) (s : Store) (k : ℕ) (pasts : List (List (List Span))) (u : State) → ArePastsAt (log_alone d s) k pasts → Holds (get_or pasts 0 []) u → u.colour < (rules_of d).colours
held_colour d s k pasts u at held =
    let lt = in_sets (get_or pasts 0 []) u.colour u.entry held in
    let size = (at.shape.1 0 d (omega arith)).0 in
    omega arith

pub hours_back_none : (d : Spec) (s : Store) (h : ℕ) (old : List Row) (a : State) → AddsHoursBack d s h h old old a a
hours_back_none d s h old a = (a, (refl, inl refl), ([], sym (append-nil old), piece_none (track d) (is_known s) (events_at (known_rows s)) (first_tenth h) a))

pub hours_back_more : (d : Spec) (s : Store) (from h to : ℕ) (old mid new : List Row) (a b c : State) → AreSpecs (d ∷ []) → h ≤ to → b.colour < (rules_of d).colours → AddsHoursBack d s h to old mid b c → AddsHoursBack d s from h mid new a b → AddsHoursBack d s from to old new a c
hours_back_more d s from h to old mid new a b c are le colour (w, like, (qs, e, last)) (z, same, (ps, q, first)) =
    let k = track d in
    let (v, moved, still) = piece_alike k (is_known s) (events_at (known_rows s)) (first_tenth h) (first_tenth to) (reverse qs) b w z (machine_laws d are) (colour, same.0, same.1) last in
    let later = alike_later k.rules (pos (first_tenth h)) (pos (first_tenth to)) w v (omega (arith, ints)) still in (
      v,
      like_join (pos (first_tenth to)) c w v like (later.1, later.2),
      (
        qs ++ ps,
        q ∙ (ap (λ (y : List Row). y ++ ps) e ∙ append_assoc old qs ps),
        subst (λ (y : List Row). Piece k (is_known s) (events_at (known_rows s)) (first_tenth from) (first_tenth to) y a v) (sym (reverse-append qs ps)) (piece_join k (is_known s) (events_at (known_rows s)) (first_tenth from) (first_tenth h) (first_tenth to) (reverse ps) (reverse qs) a z v (point_apart (is_known s) h) first moved),
      ),
    )
