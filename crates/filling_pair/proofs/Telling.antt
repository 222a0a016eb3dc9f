-- What the channel's rows of a store, with the fills between them, tell tenth by tenth.
use Rattle.std.proofs.Common.{suc, zero, ◌≡◌, refl, sym, ap, ◌∙◌, subst, inl, inr, ◌⊎◌, ◌↔◌, ℕ, ◌+◌, ◌*◌, ◌/◌, ◌<◌, ◌≤◌, pos, Bool, true, false, ◌&&◌, List, [], ◌∷◌, ◌++◌, length, take, drop, take-append-drop, get_or, Option, Some, None, arith}
use Rattle.std.specs.Prelude.{filter, is_some, not, option_map}
use Rattle.std.proofs.lemmas.Bool.{cases_Bool, cases_eq, cases_lt}
use Rattle.std.proofs.lemmas.Bool.Decides.{eqb_tells}
use Rattle.std.proofs.lemmas.List.{append-nil, take_at}
use Rattle.sig_base.specs.declared.values.Row.{Row}
use Rattle.sig_base.specs.HourRows.{Shown}
use Rattle.span_set.specs.declared.set.Span.{Span}
use Rattle.span_set.specs.Spans.{is_member}
use Rattle.channel_tables.specs.declared.spec.Spec.{Spec}
use Rattle.reach.specs.Runs.{State, Steps}
use Rattle.hour_store.specs.Store.{IsStore, Store, held_at, is_known, known_rows, rows_at}
use Rattle.board.specs.History.{Agreeing, Event, Track, events_at, letters, put}
use Rattle.board.specs.Logs.{no_row}
use Rattle.board.specs.Moves.{RowsIn, count_before}
use Rattle.board.proofs.Bridge.{agreeing_first, agreeing_join, agreeing_none, cut_rows, event_not_here, none_at}
use Rattle.board.proofs.Cutting.{events_join, none_after}
use Rattle.board.proofs.Rows.{rows_split}
use Rattle.board.proofs.Within.{rows_since, rise_rows}
use Rattle.board.proofs.Splitting.{more_rows}
use Rattle.board.proofs.Common.{event_here}
use Rattle.signal_log.specs.Log.{log_of, track_at}
use Rattle.signal_log.specs.Points.{rows_or_none}
use Rattle.signal_log.proofs.Contradicting.{earlier_events}
use Rattle.signal_log.proofs.Stored.{hour_events, rows_join}
use Rattle.rule_audit.specs.declared.lines.Place.{Place}
use Rattle.rule_audit.specs.declared.lines.Place.TheVariants.{BeforeRow, EndOfTenth}
use Rattle.filling_pair.specs.declared.strands.Fill.{Fill}
use Rattle.filling_pair.specs.declared.strands.Strand.{Strand}
use Rattle.filling_pair.specs.Strands.{AreFills, events_with, row_of, rows_of, start_of}
use Rattle.filling_pair.specs.Kept.{IsPlaceOf, StandsAt}
use Rattle.signal_log.specs.Rows.{hour_rows}
use Rattle.filling_pair.specs.Walking.{Walks, count_to, is_own, merged, own_hours, own_of}
use Rattle.filling_pair.proofs.Merging.{agreeing_letters, fills_there, merged_in, rows_there, walks_agree}
use Rattle.filling_pair.proofs.Obliged.{and_left}

-- ---- the channel's rows among those of an hour

keep_in : (p : Row → Bool) (f t : ℕ) (rs : List Row) → RowsIn f t rs → RowsIn f t (filter p rs)
keep_in p f t [] h = h
keep_in p f t (r ∷ rs) h = elim (cases_Bool (p r)) [
  | inl e ↦ rw e (h.0, h.1, keep_in p r.at t rs h.2)
  | inr e ↦ rw e (rows_since r.at f t (filter p rs) h.0 (keep_in p r.at t rs h.2))
]

keep_first : (p : Row → Bool) (r : Row) (rs : List Row) → p r ≡ true → filter p (r ∷ rs) ≡ r ∷ filter p rs
keep_first p r rs e = rw e refl

keep_rest : (p : Row → Bool) (r : Row) (rs : List Row) → p r ≡ false → filter p (r ∷ rs) ≡ filter p rs
keep_rest p r rs e = rw e refl

some_own : (o : Option ℕ) → (o ≡ None) ⊎ (is_some o ≡ true)
some_own None = inl refl
some_own (Some l) = inr refl

own_yes : (k : Track) (blanks : List Span) (r : Row) (x : ℕ) → r.at ≡ x → is_member blanks (pos x) ≡ false → is_some (k.letter r.code r.param) ≡ true → is_own k blanks r ≡ true
own_yes k blanks r x e b l = let b2 : is_member blanks (pos r.at) ≡ false = ap (λ (y : ℕ). is_member blanks (pos y)) e ∙ b in rw (l, b2) refl

own_not : (k : Track) (blanks : List Span) (r : Row) → k.letter r.code r.param ≡ None → is_own k blanks r ≡ false
own_not k blanks r e = rw e refl

own_blank : (k : Track) (blanks : List Span) (r : Row) (x : ℕ) → r.at ≡ x → is_member blanks (pos x) ≡ true → is_own k blanks r ≡ false
own_blank k blanks r x e b = let b2 : is_member blanks (pos r.at) ≡ true = ap (λ (y : ℕ). is_member blanks (pos y)) e ∙ b in elim (cases_Bool (is_some (k.letter r.code r.param))) [ inl y ↦ rw (y, b2) refl | inr n ↦ rw n refl ]

-- at a tenth that isn't blanked no letter is left out
own_letters : (k : Track) (blanks : List Span) (rs : List Row) (x : ℕ) → is_member blanks (pos x) ≡ false → letters k (events_at (own_of k blanks rs) x) ≡ letters k (events_at rs x)
own_letters k blanks [] x b = refl
own_letters k blanks (r ∷ rs) x b =
    let rest = own_letters k blanks rs x b in
    elim (eqb_tells r.at x) [
      | inl (_, e) ↦ rw (event_here r rs x e) (elim (some_own (k.letter r.code r.param)) [
        | inl none ↦ rw (keep_rest (is_own k blanks) r rs (own_not k blanks r none)) (rest ∙ sym (ap (λ (o : Option ℕ). put o (letters k (events_at rs x))) none))
        | inr some ↦ rw (keep_first (is_own k blanks) r rs (own_yes k blanks r x e b some), event_here r (own_of k blanks rs) x e) (ap (λ (ls : List ℕ). put (k.letter r.code r.param) ls) rest)
      ])
      | inr (_, ne) ↦ rw (event_not_here r rs x ne) (elim (cases_Bool (is_own k blanks r)) [
        | inl y ↦ rw (keep_first (is_own k blanks) r rs y, event_not_here r (own_of k blanks rs) x ne) rest
        | inr n ↦ rw (keep_rest (is_own k blanks) r rs n) rest
      ])
    ]

-- at a blanked tenth there is none
own_none : (k : Track) (blanks : List Span) (rs : List Row) (x : ℕ) → is_member blanks (pos x) ≡ true → events_at (own_of k blanks rs) x ≡ []
own_none k blanks [] x b = refl
own_none k blanks (r ∷ rs) x b =
    let rest = own_none k blanks rs x b in
    elim (eqb_tells r.at x) [
      | inl (_, e) ↦ rw (keep_rest (is_own k blanks) r rs (own_blank k blanks r x e b)) rest
      | inr (_, ne) ↦ elim (cases_Bool (is_own k blanks r)) [
        | inl y ↦ rw (keep_first (is_own k blanks) r rs y, event_not_here r (own_of k blanks rs) x ne) rest
        | inr n ↦ rw (keep_rest (is_own k blanks) r rs n) rest
      ]
    ]

-- ---- the fills

pub fills_in : (k : Track) (known : ℕ → Bool) (low end : ℕ) (fs : List Fill) → low ≤ end → AreFills k known low end fs → RowsIn low end (rows_of fs)
fills_in k known low end [] le h = le
fills_in k known low end (f ∷ fs) le (a, b, c, d, r) = (a, b, fills_in k known f.at end fs (omega arith) r)

pub none_known : (k : Track) (known : ℕ → Bool) (low end : ℕ) (fs : List Fill) (x : ℕ) → AreFills k known low end fs → known x ≡ true → events_at (rows_of fs) x ≡ []
none_known k known low end [] x h e = refl
none_known k known low end (f ∷ fs) x (a, b, c, d, r) e =
    event_not_here (row_of f) (rows_of fs) x (λ same. let bad : true ≡ false = sym e ∙ (ap known (sym same) ∙ c) in absurd (cc)) ∙ none_known k known f.at end fs x r e

-- ---- hour by hour

some_rows : (s : Store) (hour : ℕ) (o : Option Shown) → held_at s hour ≡ o → IsStore s → RowsIn (36000 * hour) (36000 * hour + 36000) (rows_or_none (option_map (λ h. h.rows) o))
some_rows s hour None e is = omega arith
some_rows s hour (Some h) e is = let of = is.in_place hour h e in rise_rows (36000 * hour) (36000 * hour + 36000) h.rows (omega arith) of.rows_are.rise

pub hour_in : (s : Store) (hour : ℕ) → IsStore s → RowsIn (36000 * hour) (36000 * hour + 36000) (hour_rows s hour)
hour_in s hour is = some_rows s hour (held_at s hour) refl is

not_held : (o : Option Shown) → is_some o ≡ false → rows_or_none (option_map (λ h. h.rows) o) ≡ []
not_held None e = refl
not_held (Some h) e = absurd (cc)

and_true : (a b : Bool) → (a && not b) ≡ true → b ≡ false
and_true true false e = refl
and_true true true e = absurd (cc)
and_true false b e = absurd (cc)

and_false : (a b : Bool) → (a && not b) ≡ false → (a ≡ false) ⊎ (b ≡ true)
and_false true true e = inr refl
and_false true false e = absurd (cc)
and_false false b e = inl refl

-- ---- places

cut_place : (rows : List Row) (f t end : ℕ) (place : Place) → IsPlaceOf rows t place → RowsIn f end rows → f ≤ t → t < end → RowsIn f (t + 1) (take (count_to rows t place) rows) × RowsIn t end (drop (count_to rows t place) rows)
cut_place rows f t end (BeforeRow n) (lt, e) h low high =
    let (a, b, c, d) = rows_split f end n rows h lt in
    (subst (λ (x : ℕ). RowsIn f (x + 1) (take n rows)) e a, subst (λ (x : ℕ). RowsIn x end (drop n rows)) e b)
cut_place rows f t end EndOfTenth p h low high =
    let (a, b, c, d) = cut_rows f (t + 1) end rows (omega arith) (omega arith) h in
    (a, rows_since (t + 1) t end (drop (count_before (t + 1) rows) rows) (omega arith) b)

one_tenth : (k : Track) (given : ℕ → List Event) (t : ℕ) (a v : State) → Agreeing k (λ x. true) given t (t + 1) a v ↔ Steps k.rules (pos t) a (letters k (given t)) v
one_tenth k given t a v =
    let f = agreeing_first k (λ x. true) given t (t + 1) a v (omega arith) refl in (
      λ g. let (w, st, r) = f.0 g in subst (λ (z : State). Steps k.rules (pos t) a (letters k (given t)) z) (sym ((agreeing_none k (λ x. true) given (t + 1) w v).0 r)) st,
      λ st. f.1 (v, st, (agreeing_none k (λ x. true) given (t + 1) v v).1 refl),
    )

module _ (k : Track) (s : Store) (is : IsStore s) where
  own_in : (hour : ℕ) → RowsIn (36000 * hour) (36000 * (hour + 1)) (own_of k s.blanks (hour_rows s hour))
  own_in hour =
      let e : 36000 * hour + 36000 ≡ 36000 * (hour + 1) = omega arith in
      subst (λ (t : ℕ). RowsIn (36000 * hour) t (own_of k s.blanks (hour_rows s hour))) e (keep_in (is_own k s.blanks) (36000 * hour) (36000 * hour + 36000) (hour_rows s hour) (hour_in s hour is))

  pub hours_in : (hour n : ℕ) → RowsIn (36000 * hour) (36000 * (hour + n)) (own_hours k s hour n)
  hours_in hour zero = omega arith
  hours_in hour (suc n) =
      let e : 36000 * (hour + 1 + n) ≡ 36000 * (hour + suc n) = omega arith in
      rows_join (36000 * hour) (36000 * (hour + 1)) (36000 * (hour + suc n)) (own_of k s.blanks (hour_rows s hour)) (own_hours k s (hour + 1) n) (own_in hour)
      (subst (λ (t : ℕ). RowsIn (36000 * (hour + 1)) t (own_hours k s (hour + 1) n)) e (hours_in (hour + 1) n))

  -- a tenth has the events of its own hour
  hours_events : (hour n x g : ℕ) → x / 36000 ≡ g → hour ≤ g → g < hour + n → events_at (own_hours k s hour n) x ≡ events_at (own_of k s.blanks (hour_rows s g)) x
  hours_events hour zero x g e low high = absurd (omega arith)
  hours_events hour (suc n) x g e low high =
      let own = own_of k s.blanks (hour_rows s hour) in
      let rest = own_hours k s (hour + 1) n in
      events_join own rest x ∙ elim (cases_eq hour g) [
        | inl same ↦
            let none : events_at rest x ≡ [] = none_at rest (36000 * (hour + 1)) (36000 * (hour + 1 + n)) x (hours_in (hour + 1) n) (omega arith) in
            ap (λ (zs : List Event). events_at own x ++ zs) none ∙ (append-nil (events_at own x) ∙ ap (λ (h : ℕ). events_at (own_of k s.blanks (hour_rows s h)) x) same)
        | inr ne ↦
            let none : events_at own x ≡ [] = none_after own (36000 * hour) (36000 * (hour + 1)) x (own_in hour) (omega arith) in
            ap (λ (zs : List Event). zs ++ events_at rest x) none ∙ hours_events (hour + 1) n x g e (omega arith) (omega arith)
      ]

  known_not_blank : (x : ℕ) → is_known s x ≡ true → is_member s.blanks (pos x) ≡ false
  known_not_blank x e = and_true (is_some (held_at s (x / 36000))) (is_member s.blanks (pos x)) e

  -- an unknown tenth has none
  unknown_none : (x g : ℕ) → x / 36000 ≡ g → is_known s x ≡ false → events_at (own_of k s.blanks (hour_rows s g)) x ≡ []
  unknown_none x g e u = elim (and_false (is_some (held_at s (x / 36000))) (is_member s.blanks (pos x)) u) [
    | inl none ↦
        let gone : is_some (held_at s g) ≡ false = ap (λ (h : ℕ). is_some (held_at s h)) (sym e) ∙ none in
        let empty : hour_rows s g ≡ [] = not_held (held_at s g) gone in
        ap (λ (rs : List Row). events_at (own_of k s.blanks rs) x) empty
    | inr blank ↦ own_none k s.blanks (hour_rows s g) x blank
  ]

  known_letters : (x g : ℕ) → x / 36000 ≡ g → g < length s.hours → is_known s x ≡ true → letters k (events_at (own_of k s.blanks (hour_rows s g)) x) ≡ letters k (events_at (known_rows s) x)
  known_letters x g e lt known =
      own_letters k s.blanks (hour_rows s g) x (known_not_blank x known)
      ∙ ap (letters k) (sym (hour_events s g x (rows_at s g) is lt refl (omega arith) (omega arith) known))

  module _ (specs : List Spec) (fs : List Fill) (fills : AreFills k (is_known s) 0 (36000 * length s.hours) fs) where
    in_window : RowsIn 0 (36000 * length s.hours) (rows_of fs)
    in_window = fills_in k (is_known s) 0 (36000 * length s.hours) fs (omega arith) fills

    with_known : (x : ℕ) → is_known s x ≡ true → events_with (log_of specs s) fs x ≡ events_at (known_rows s) x
    with_known x e = rw e refl

    with_unknown : (x : ℕ) → is_known s x ≡ false → events_with (log_of specs s) fs x ≡ events_at (rows_of fs) x
    with_unknown x e = rw e refl

    -- rows that tell the known tenths and none of the others, with the fills between them
    merged_letters : (b m x : ℕ) (rs : List Row) → x < b → b ≤ m → m ≤ 36000 * length s.hours → RowsIn 0 m rs → (is_known s x ≡ true → letters k (events_at rs x) ≡ letters k (events_at (known_rows s) x)) → (is_known s x ≡ false → events_at rs x ≡ []) → letters k (events_at (merged b rs fs) x) ≡ letters k (events_with (log_of specs s) fs x)
    merged_letters b m x rs lt le high h there none = elim (cases_Bool (is_known s x)) [
      | inl known ↦ ap (letters k) (rows_there b rs fs x (none_known k (is_known s) 0 (36000 * length s.hours) fs x fills known)) ∙ (there known ∙ ap (letters k) (sym (with_known x known)))
      | inr unknown ↦ ap (letters k) (fills_there b (36000 * length s.hours) 0 rs fs x lt (omega arith) (more_rows 0 m (36000 * length s.hours) rs high h) in_window (none unknown) ∙ sym (with_unknown x unknown))
    ]

    -- a walk over all rows of the channel is a run over the window
    pub whole : (start u : State) → Walks k (merged (36000 * length s.hours) (own_hours k s 0 (length s.hours)) fs) start u ↔ Agreeing k (λ x. true) (events_with (log_of specs s) fs) 0 (36000 * length s.hours) start u
    whole start u =
        let end = 36000 * length s.hours in
        let rs = own_hours k s 0 (length s.hours) in
        let e1 : 36000 * 0 ≡ 0 = omega arith in
        let e2 : 36000 * (0 + length s.hours) ≡ end = omega arith in
        let rows : RowsIn 0 end rs = subst (λ (t : ℕ). RowsIn 0 t rs) e2 (subst (λ (f : ℕ). RowsIn f (36000 * (0 + length s.hours)) rs) e1 (hours_in 0 (length s.hours))) in
        let tell : (x : ℕ) → x < end → events_at rs x ≡ events_at (own_of k s.blanks (hour_rows s (x / 36000))) x = λ x lt. hours_events 0 (length s.hours) x (x / 36000) refl (omega arith) (omega arith) in
        let same : (x : ℕ) → 0 ≤ x → x < end → letters k (events_at (merged end rs fs) x) ≡ letters k (events_with (log_of specs s) fs x) = λ x low lt.
        merged_letters end end x rs lt (omega arith) (omega arith) rows
        (λ known. ap (letters k) (tell x lt) ∙ known_letters x (x / 36000) refl (omega arith) known)
        (λ unknown. tell x lt ∙ unknown_none x (x / 36000) refl unknown) in
        let a = walks_agree k end (merged end rs fs) start u (merged_in end end end 0 rs fs (omega arith) (omega arith) rows in_window) in
        let b = agreeing_letters k (λ x. true) (events_at (merged end rs fs)) (events_with (log_of specs s) fs) 0 end start u same in
        (λ w. b.0 (a.0 w), λ g. a.1 (b.1 g))

    -- ---- up to a place of a known tenth

    module _ (t : ℕ) (place : Place) (within : t < 36000 * length s.hours) (known : is_known s t ≡ true) (is_place : IsPlaceOf (hour_rows s (t / 36000)) t place) where
      abbrev the_rows : List Row
      the_rows = hour_rows s (t / 36000)

      abbrev the_first : List Row
      the_first = take (count_to (hour_rows s (t / 36000)) t place) (hour_rows s (t / 36000))

      abbrev the_others : List Row
      the_others = drop (count_to (hour_rows s (t / 36000)) t place) (hour_rows s (t / 36000))

      abbrev to_place : List Row
      to_place = own_hours k s 0 (t / 36000) ++ own_of k s.blanks the_first

      cut : RowsIn (36000 * (t / 36000)) (t + 1) the_first × RowsIn t (36000 * (t / 36000) + 36000) the_others
      cut = cut_place (hour_rows s (t / 36000)) (36000 * (t / 36000)) t (36000 * (t / 36000) + 36000) place is_place (hour_in s (t / 36000) is) (omega arith) (omega arith)

      earlier_in : RowsIn 0 (36000 * (t / 36000)) (own_hours k s 0 (t / 36000))
      earlier_in =
          let rs = own_hours k s 0 (t / 36000) in
          let e1 : 36000 * 0 ≡ 0 = omega arith in
          let e2 : 36000 * (0 + t / 36000) ≡ 36000 * (t / 36000) = omega arith in
          subst (λ (m : ℕ). RowsIn 0 m rs) e2 (subst (λ (f : ℕ). RowsIn f (36000 * (0 + t / 36000)) rs) e1 (hours_in 0 (t / 36000)))

      own_first_in : RowsIn (36000 * (t / 36000)) (t + 1) (own_of k s.blanks the_first)
      own_first_in = keep_in (is_own k s.blanks) (36000 * (t / 36000)) (t + 1) the_first cut.0

      to_place_in : RowsIn 0 (t + 1) to_place
      to_place_in = rows_join 0 (36000 * (t / 36000)) (t + 1) (own_hours k s 0 (t / 36000)) (own_of k s.blanks the_first) earlier_in own_first_in

      -- in an earlier hour, and in the place's own
      in_earlier : (x : ℕ) → x / 36000 < t / 36000 → events_at to_place x ≡ events_at (own_of k s.blanks (hour_rows s (x / 36000))) x
      in_earlier x lt =
          let own = own_of k s.blanks the_first in
          let none : events_at own x ≡ [] = none_at own (36000 * (t / 36000)) (t + 1) x own_first_in (omega arith) in
          events_join (own_hours k s 0 (t / 36000)) own x
          ∙ (ap (λ (zs : List Event). events_at (own_hours k s 0 (t / 36000)) x ++ zs) none
          ∙ (append-nil (events_at (own_hours k s 0 (t / 36000)) x) ∙ hours_events 0 (t / 36000) x (x / 36000) refl (omega arith) (omega arith)))

      in_own : (x : ℕ) → 36000 * (t / 36000) ≤ x → events_at to_place x ≡ events_at (own_of k s.blanks the_first) x
      in_own x le =
          let own = own_of k s.blanks the_first in
          let none : events_at (own_hours k s 0 (t / 36000)) x ≡ [] = none_after (own_hours k s 0 (t / 36000)) 0 (36000 * (t / 36000)) x earlier_in le in
          events_join (own_hours k s 0 (t / 36000)) own x ∙ ap (λ (zs : List Event). zs ++ events_at own x) none

      rows_told : (x : ℕ) → x / 36000 ≡ t / 36000 → is_known s x ≡ true → events_at (known_rows s) x ≡ events_at the_rows x
      rows_told x e there = hour_events s (t / 36000) x (rows_at s (t / 36000)) is (omega arith) refl (omega arith) (omega arith) there

      place_known : (x : ℕ) → x < t → is_known s x ≡ true → letters k (events_at to_place x) ≡ letters k (events_at (known_rows s) x)
      place_known x lt there = elim (cases_lt (x / 36000) (t / 36000)) [
        | inl early ↦ ap (letters k) (in_earlier x early) ∙ known_letters x (x / 36000) refl (omega arith) there
        | inr late ↦
            let e : x / 36000 ≡ t / 36000 = omega arith in
            ap (letters k) (in_own x (omega arith))
            ∙ (own_letters k s.blanks the_first x (known_not_blank x there)
            ∙ ap (letters k) (sym (earlier_events the_rows (count_to the_rows t place) t (36000 * (t / 36000) + 36000) x cut.1 lt) ∙ sym (rows_told x e there)))
      ]

      place_unknown : (x : ℕ) → x < t → is_known s x ≡ false → events_at to_place x ≡ []
      place_unknown x lt gone = elim (cases_lt (x / 36000) (t / 36000)) [
        | inl early ↦ in_earlier x early ∙ unknown_none x (x / 36000) refl gone
        | inr late ↦
            let e : t / 36000 ≡ x / 36000 = omega arith in
            in_own x (omega arith) ∙ elim (and_false (is_some (held_at s (x / 36000))) (is_member s.blanks (pos x)) gone) [
              | inl none ↦ absurd (let held : is_some (held_at s (t / 36000)) ≡ true = and_left (is_some (held_at s (t / 36000))) (is_member s.blanks (pos t)) known in let bad : true ≡ false = sym held ∙ (ap (λ (h : ℕ). is_some (held_at s h)) e ∙ none) in cc)
              | inr blank ↦ own_none k s.blanks the_first x blank
            ]
      ]

      merged_before : (x : ℕ) → 0 ≤ x → x < t → letters k (events_at (merged t to_place fs) x) ≡ letters k (events_with (log_of specs s) fs x)
      merged_before x low lt = merged_letters t (t + 1) x to_place lt (omega arith) (omega arith) to_place_in (place_known x lt) (place_unknown x lt)

      merged_here : letters k (events_at (merged t to_place fs) t) ≡ letters k (events_at the_first t)
      merged_here =
          ap (letters k) (rows_there t to_place fs t (none_known k (is_known s) 0 (36000 * length s.hours) fs t fills known) ∙ in_own t (omega arith))
          ∙ own_letters k s.blanks the_first t (known_not_blank t known)

      -- a walk up to the place is a run of the tenths before, and then the rows of its tenth before it
      upto_place : (start v : State) → Walks k (merged t to_place fs) start v ↔ ((a : State) × Agreeing k (λ x. true) (events_with (log_of specs s) fs) 0 t start a × Steps k.rules (pos t) a (letters k (events_at the_first t)) v)
      upto_place start v =
          let M = merged t to_place fs in
          let G = events_with (log_of specs s) fs in
          let one = walks_agree k (t + 1) M start v (merged_in t (t + 1) (36000 * length s.hours) 0 to_place fs (omega arith) (omega arith) to_place_in in_window) in
          let two = agreeing_join k (λ x. true) (events_at M) 0 t (t + 1) start v (omega arith) (omega arith) in
          let early = λ (a : State). agreeing_letters k (λ x. true) (events_at M) G 0 t start a merged_before in
          let last = λ (a : State). one_tenth k (events_at M) t a v in (
            λ w. let (a, g, h) = two.0 (one.0 w) in (a, (early a).0 g, subst (λ (ls : List ℕ). Steps k.rules (pos t) a ls v) merged_here ((last a).0 h)),
            λ (a, g, h). one.1 (two.1 (a, (early a).1 g, (last a).1 (subst (λ (ls : List ℕ). Steps k.rules (pos t) a ls v) (sym merged_here) h))),
          )

      told_here : events_with (log_of specs s) fs t ≡ events_at the_first t ++ events_at the_others t
      told_here =
          with_known t known ∙ (rows_told t refl known
          ∙ (ap (λ (rs : List Row). events_at rs t) (sym (take-append-drop (count_to the_rows t place) the_rows)) ∙ events_join the_first the_others t))

-- ---- strands

module _ (s : Store) (is : IsStore s) (specs : List Spec) (strand : Strand) (t : ℕ) (within : t < 36000 * length s.hours) (known : is_known s t ≡ true) where
  abbrev the_track : Track
  the_track = track_at (log_of specs s) strand.spec

  -- the state at a place is that to which the walk comes
  pub stands : (place : Place) → AreFills the_track (is_known s) 0 (36000 * length s.hours) strand.fills → IsPlaceOf (hour_rows s (t / 36000)) t place → (v : State) → Walks the_track (merged t (own_hours the_track s 0 (t / 36000) ++ own_of the_track s.blanks (take (count_to (hour_rows s (t / 36000)) t place) (hour_rows s (t / 36000)))) strand.fills) (start_of strand) v ↔ StandsAt (log_of specs s) (hour_rows s (t / 36000)) t place strand v
  stands (BeforeRow n) fills is_place v =
      let k = the_track in
      let G = events_with (log_of specs s) strand.fills in
      let rows = hour_rows s (t / 36000) in
      let first = take n rows in
      let j = length (events_at first (get_or rows n no_row).at) in
      let up = upto_place k s is specs strand.fills fills t (BeforeRow n) within known is_place (start_of strand) v in
      let told = told_here k s is specs strand.fills fills t (BeforeRow n) within known is_place in
      let size : j ≡ length (events_at first t) = ap (λ (x : ℕ). length (events_at first x)) is_place.1 in
      let same : letters k (take j (G t)) ≡ letters k (events_at first t) = ap (λ (es : List Event). letters k (take j es)) told ∙ ap (letters k) (take_at (events_at first t) (events_at (drop n rows) t) j (sym size)) in (
        λ w. let (a, g, st) = up.0 w in (a, g, subst (λ (ls : List ℕ). Steps k.rules (pos t) a ls v) (sym same) st),
        λ (a, g, st). up.1 (a, g, subst (λ (ls : List ℕ). Steps k.rules (pos t) a ls v) same st),
      )
  stands EndOfTenth fills is_place v =
      let k = the_track in
      let G = events_with (log_of specs s) strand.fills in
      let rows = hour_rows s (t / 36000) in
      let n = count_before (t + 1) rows in
      let first = take n rows in
      let up = upto_place k s is specs strand.fills fills t EndOfTenth within known is_place (start_of strand) v in
      let told = told_here k s is specs strand.fills fills t EndOfTenth within known is_place in
      let h = hour_in s (t / 36000) is in
      let parts = cut_rows (36000 * (t / 36000)) (t + 1) (36000 * (t / 36000) + 36000) rows (omega arith) (omega arith) h in
      let none : events_at (drop n rows) t ≡ [] = none_at (drop n rows) (t + 1) (36000 * (t / 36000) + 36000) t parts.1 (omega arith) in
      let same : letters k (G t) ≡ letters k (events_at first t) = ap (letters k) (told ∙ (ap (λ (es : List Event). events_at first t ++ es) none ∙ append-nil (events_at first t))) in
      let two = agreeing_join k (λ x. true) G 0 t (t + 1) (start_of strand) v (omega arith) (omega arith) in (
        λ w. let (a, g, st) = up.0 w in two.1 (a, g, (one_tenth k G t a v).1 (subst (λ (ls : List ℕ). Steps k.rules (pos t) a ls v) (sym same) st)),
        λ g. let (a, g1, g2) = two.0 g in up.1 (a, g1, subst (λ (ls : List ℕ). Steps k.rules (pos t) a ls v) same ((one_tenth k G t a v).0 g2)),
      )
