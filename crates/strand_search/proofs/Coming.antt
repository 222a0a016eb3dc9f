-- Whether some history comes at the place to a state that answers.
use Rattle.std.proofs.Common.{◌≡◌, refl, ap, sym, subst, ◌⊎◌, inl, inr, ◌↔◌, ℕ, ◌+◌, ◌/◌, ◌≤◌, ℤ, pos, ◌+ℤ◌, ◌≤ℤ◌, Bool, true, false, List, [], ◌∷◌, drop, get_or, reverse, Option, Some, None, arith}
use Rattle.std.specs.Prelude.{is_some, not, option_map}
use Rattle.std.proofs.lemmas.Bool.{and_parts}
use Rattle.std.proofs.lemmas.Int.{ints}
use Rattle.span_set.specs.declared.set.Span.{Span}
use Rattle.span_set.specs.Spans.{is_member}
use Rattle.colour_machine.specs.Mask.{Has}
use Rattle.colour_machine.specs.Rules.{Rules}
use Rattle.sig_base.specs.declared.values.Row.{Row}
use Rattle.sig_base.specs.HourRows.{Shown}
use Rattle.gap_map.specs.declared.stretch.Stretch.{Stretch}
use Rattle.gap_map.specs.Stretches.{known_at}
use Rattle.channel_tables.specs.declared.spec.Spec.{Spec}
use Rattle.channel_tables.specs.Spec.{rules_of}
use Rattle.reach.specs.Runs.{State}
use Rattle.reach.specs.Tests.{InBound}
use Rattle.reach.specs.declared.seen.AgeBound.{AgeBound}
use Rattle.reach.specs.declared.seen.AgeBound.TheVariants.{Any, AtLeast, AtMost}
use Rattle.reach.specs.declared.seen.Test.{Test}
use Rattle.channel_path.specs.Places.{Passes}
use Rattle.hour_store.specs.Store.{IsStore, Store, held_at, is_known, rows_at}
use Rattle.board.specs.Channels.{AreSpecs, track}
use Rattle.board.specs.Logs.{HourLog, end_tenth, first_tenth, hour_log, no_row}
use Rattle.board.specs.Moves.{count_before}
use Rattle.board.specs.Places.{IsAtPlace, IsPlace, since}
use Rattle.board.proofs.Cutting.{from_walk, since_in, to_walk}
use Rattle.board.proofs.Verdicts.{end_place}
use Rattle.board.proofs.Within.{end_is_place}
use Rattle.signal_log.specs.Log.{HasHistory}
use Rattle.signal_log.specs.Laws.{ViewsTell}
use Rattle.signal_log.specs.Points.{AreAheadsAt, ArePastsAt, rows_or_none}
use Rattle.signal_log.specs.States.{AreAlike, MayBeAfter}
use Rattle.signal_log.specs.Views.{IsHourOf}
use Rattle.signal_log.proofs.Suiting.{all_count}
use Rattle.signal_log.proofs.Viewed.{hours_tell}
use Rattle.gap_ways.specs.Choices.{Answers}
use Rattle.gap_ways.specs.Ways.{state_of}
use Rattle.channel_ways.specs.Moves.{NonePasses, PassesAlone}
use Rattle.channel_ways.specs.declared.passage.Passing.{Passing}
use Rattle.channel_ways.proofs.Running.{walk_late}
use Rattle.board.proofs.Common.{renumbered}
use Rattle.strand_search.specs.declared.cut.Cut.{Cut}
use Rattle.strand_search.specs.declared.crossing.Crossing.{Crossing}
use Rattle.strand_search.specs.declared.search.Asked.{Asked}
use Rattle.strand_search.specs.Crossings.{FitsCut, IsCrossed, IsCrossing, LeadsOn, LeadsTo, rows_to}
use Rattle.strand_search.specs.Parts.{IsCutOf, IsHourPart, StandsAlone, moves_over}
use Rattle.strand_search.specs.Points.{log_alone}
use Rattle.strand_search.specs.Runs.{IsAsked, IsPlaceAt, MayComeTo, NoneComes, TellsWithinHour, test_of}
use Rattle.signal_log.specs.Rows.{rows_before}
use Rattle.signal_log.proofs.Lawful.{most_far}
use Rattle.strand_search.proofs.Pieces.{piece_in}
use Rattle.strand_search.proofs.Stepping.{next_here}
use Rattle.strand_search.proofs.Placed.{hour_is, left_part, left_tells, left_within, place_here, right_part, right_tells, right_within}

-- a state at the place stands alone
pub stands_here : (d : Spec) (asked : Asked) (before : List (List Span)) (cut : Cut) (after : List (Option ℤ)) (here : Passing) → FitsCut d asked before cut after → PassesAlone (rules_of d) before after (moves_over d cut.left) (moves_over d cut.right) asked.met (test_of asked) here → StandsAlone (rules_of d) (asked.at + 1) here
stands_here d asked before cut after here fits (((z, held, walk), on), answers, by, colours, alone) = record {
  alone = alone;
  colours = colours;
  early = omega (arith, ints);
  late = walk_late (rules_of d) _ (moves_over d cut.left) z (state_of here.state) walk (omega (arith, ints)) (fits.none_older z held);
}

-- states of one colour whose ages meet the same bounds answer alike
pub answers_same : (met : Bool) (test : Test) (v w : State) → v.colour ≡ w.colour → (InBound test.bound test.at v.entry ↔ InBound test.bound test.at w.entry) → Answers met test v → Answers met test w
answers_same true test v w same both (has, bound) = (subst (λ (c : ℕ). Has test.colours c) same has, both.0 bound)
answers_same false test v w same both fails = λ (has, bound). fails (subst (λ (c : ℕ). Has test.colours c) (sym same) has, both.1 bound)

far_least : (p at e : ℤ) (n : ℕ) → (e +ℤ pos 36001) ≤ℤ p → p ≤ℤ at → n ≤ 36001 → (e +ℤ pos n) ≤ℤ at
far_least p at e n far le few = omega (arith, ints)

far_ages : (p at e x : ℤ) (bound : AgeBound) → (e ≡ x) ⊎ (((x +ℤ pos 36001) ≤ℤ p) × ((e +ℤ pos 36001) ≤ℤ p)) → p ≤ℤ at → TellsWithinHour bound → InBound bound at x → InBound bound at e
far_ages p at e x Any k le few h = tt
far_ages p at e x (AtLeast n) k le few h = elim k [ inl same ↦ rw same h | inr (a, b) ↦ far_least p at e n b le few ]
far_ages p at e x (AtMost n) k le few h = elim k [ inl same ↦ rw same h | inr (a, b) ↦ absurd (most_far p at x n a le few h) ]

-- and states that are alike are such
pub alike_tell : (m : Rules) (p at : ℤ) (v w : State) (bound : AgeBound) → AreAlike m p v w → p ≤ℤ at → TellsWithinHour bound → (v.colour ≡ w.colour) × (InBound bound at v.entry ↔ InBound bound at w.entry)
alike_tell m p at v w bound (few, same, k) le within =
    let there : (w.entry ≡ v.entry) ⊎ (((v.entry +ℤ pos 36001) ≤ℤ p) × ((w.entry +ℤ pos 36001) ≤ℤ p)) = elim k [ inl e ↦ inl (ap (λ (z : State). z.entry) e) | inr far ↦ inr far ] in
    let back : (v.entry ≡ w.entry) ⊎ (((w.entry +ℤ pos 36001) ≤ℤ p) × ((v.entry +ℤ pos 36001) ≤ℤ p)) = elim k [ inl e ↦ inl (sym (ap (λ (z : State). z.entry) e)) | inr (a, b) ↦ inr (b, a) ] in
    (sym same, (far_ages p at w.entry v.entry bound there le within, far_ages p at v.entry w.entry bound back le within))

some_rows : (o : Option Shown) (rows : List Row) → is_some o ≡ true → rows ≡ rows_or_none (option_map (λ h. h.rows) o) → option_map (λ h. h.rows) o ≡ Some rows
some_rows None rows e is = absurd (cc)
some_rows (Some h) rows e is = ap (λ (x : List Row). Some x) (sym is)

module _ (d : Spec) (s : Store) (asked : Asked) (rows : List Row) (ss : List Stretch) (is : IsStore s) (ask : IsAsked s asked) (part : IsHourPart s (asked.at / 36000) rows ss) (cut : Cut) (c : IsCutOf rows ss asked.at (rows_to rows asked.at asked.before) cut) (pasts : List (List (List Span))) (aheads : List (List (Option ℤ))) (at : ArePastsAt (log_alone d s) (asked.at / 36000) pasts) (af : AreAheadsAt (log_alone d s) (asked.at / 36000 + 1) aheads) where
  abbrev x : ℕ
  x = asked.at

  abbrev hour : ℕ
  hour = asked.at / 36000

  abbrev f : ℕ
  f = first_tenth (asked.at / 36000)

  abbrev t : ℕ
  t = end_tenth (asked.at / 36000)

  abbrev n : ℕ
  n = rows_to rows asked.at asked.before

  -- ---- a way over the cut is one over the hour
  pub crossed : (way : Crossing) → IsCrossing d asked (get_or pasts 0 []) cut (get_or aheads 0 []) way → IsCrossed d s asked pasts way
  crossed way w =
      let (qs, e, first) = w.left f (x + 1) (left_part d s asked rows ss is ask part cut c) in
      let (ps, q, last) = w.right x t (right_part d s asked rows ss is ask part cut c) in
      let next : t ≡ first_tenth (hour + 1) = omega arith in
      record {
        held = w.held;
        goes_on = next_here d s (hour + 1) aheads way.after af w.admitted w.alone w.colours w.late;
        here = w.here;
        answers = w.answers;
        left = subst (λ (z : List Row). LeadsTo d s asked f (reverse z) (state_of way.before) w.here) (sym e) (piece_in (track d) _ (is_known s) _ _ f (x + 1) (reverse qs) (state_of way.before) w.here (left_within d s asked rows ss is ask part cut c) (left_tells d s asked rows ss is ask part cut c) first);
        right = subst (λ (y : ℕ). LeadsOn d s asked y way.later.items w.here (state_of way.after.state)) next (subst (λ (z : List Row). LeadsOn d s asked t z w.here (state_of way.after.state)) (sym q) (piece_in (track d) _ (is_known s) _ _ x t ps w.here (state_of way.after.state) (right_within d s asked rows ss is ask part cut c) (right_tells d s asked rows ss is ask part cut c) last));
      }

  -- ---- where no state passes, none comes up in a history
  module _ (are : AreSpecs (d ∷ [])) (none : NonePasses (rules_of d) (get_or pasts 0 []) (get_or aheads 0 []) (moves_over d cut.left) (moves_over d cut.right) asked.met (test_of asked)) where
    place : IsPlace f t rows ss x n
    place = place_here d s asked rows ss is ask part

    abbrev view : HourLog
    view = hour_log (asked.at / 36000) (d ∷ []) rows ss pasts aheads

    held : rows_at s hour ≡ Some rows
    held = some_rows (held_at s hour) rows (and_parts (is_some (held_at s hour)) (not (is_member s.blanks (pos x))) ask.is_known).0 part.rows_are

    in_view : IsHourOf s view
    in_view = record { is_store = is; within = (let w = ask.within in omega arith); held = held; cut = part.cut; before = at; after = all_count (log_alone d s) (hour + 1) aheads af }

    tells : ViewsTell s view
    tells = hours_tell s view are in_view

    passes : (w : State) → IsAtPlace (track d) rows ss f t (get_or pasts 0 []) (get_or aheads 0 []) x n w → Passes (rules_of d) (get_or pasts 0 []) (get_or aheads 0 []) (moves_over d cut.left) (moves_over d cut.right) w
    passes w ((a, h, to), (u, from, ad)) =
        let first = (to_walk (track d) rows ss f t x n a w place).0 to in
        let last = renumbered (track d) x t n 0 (drop n rows) (since x ss) w u (since_in f t x ss place.stretches place.first place.last) place.after ((from_walk (track d) rows ss f t x n w u place).0 from) in
        ((a, h, rw (c.left_rows, c.left_stretches) first), (u, rw (c.right_rows, c.right_stretches) last, ad))

    no_alike : (v w : State) → AreAlike (rules_of d) (pos f) v w → IsAtPlace (track d) rows ss f t (get_or pasts 0 []) (get_or aheads 0 []) x n w → Answers asked.met (test_of asked) v → ⊥
    no_alike v w alike here answers =
        let (colour, bound) = alike_tell (rules_of d) (pos f) (pos x) v w asked.bound alike (omega (arith, ints)) ask.bound in
        none w (passes w here) (answers_same asked.met (test_of asked) v w colour bound answers)

    none_at : (o : Option ℕ) (v : State) → asked.before ≡ o → IsPlaceAt rows x o → MayComeTo d s x o v → Answers asked.met (test_of asked) v → ⊥
    none_at None v e p may answers =
        let has : HasHistory (log_alone d s) = (may.0, may.1) in
        let (w, pass, alike) = (tells.ends has x 0 place.is_known (omega arith)).back v may in
        let later = (end_is_place hour x rows ss (hour_is s hour rows ss part) place.is_known).1 in
        let end = subst (λ (o : Option ℕ). IsPlace f t rows ss x (rows_to rows x o)) e place in
        let here = (end_place (track d) rows ss f t x (count_before (x + 1) rows) (get_or pasts 0 []) (get_or aheads 0 []) w end later).1 pass in
        no_alike v w alike (subst (λ (o : Option ℕ). IsAtPlace (track d) rows ss f t (get_or pasts 0 []) (get_or aheads 0 []) x (rows_to rows x o) w) (sym e) here) answers
    none_at (Some i) v e (within, tenth) may answers =
        let has : HasHistory (log_alone d s) = (may.0, may.1) in
        let known = subst (λ (y : ℕ). known_at ss y ≡ true) (sym tenth) place.is_known in
        let may2 : MayBeAfter (log_alone d s) 0 x (rows_before rows i) v = subst (λ (rs : List Row). MayBeAfter (log_alone d s) 0 x (rows_before rs i) v) (sym part.rows_are) may in
        let may3 : MayBeAfter (log_alone d s) 0 (get_or rows i no_row).at (rows_before rows i) v = subst (λ (y : ℕ). MayBeAfter (log_alone d s) 0 y (rows_before rows i) v) (sym tenth) may2 in
        let (w, pass, alike) = (tells.rows has i 0 within known (omega arith)).back v may3 in
        let here = subst (λ (y : ℕ). IsAtPlace (track d) rows ss f t (get_or pasts 0 []) (get_or aheads 0 []) y i w) tenth pass in
        no_alike v w alike (subst (λ (o : Option ℕ). IsAtPlace (track d) rows ss f t (get_or pasts 0 []) (get_or aheads 0 []) x (rows_to rows x o) w) (sym e) here) answers

    pub none_comes : NoneComes d s asked
    none_comes v may answers = none_at asked.before v refl (subst (λ (rs : List Row). IsPlaceAt rs x asked.before) (sym part.rows_are) ask.place) may answers
