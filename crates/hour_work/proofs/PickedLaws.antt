-- The arrivals that the view of an hour tells are those that the known rows tell.
use Rattle.std.proofs.Common.{◌≡◌, ◌↔◌, inl, inr, refl, ap, sym, ◌∙◌, subst, ℕ, ◌+◌, ◌*◌, ◌<◌, ◌≤◌, pos, Bool, true, false, not, ◌&&◌, cond, eqb, List, [], ◌∷◌, ◌++◌, length, length-append, get_or, take, Option, Some, None, append_assoc, arith}
use Rattle.std.specs.Prelude.{flat_map, is_some}
use Rattle.std.specs.List.{list_any}
use Rattle.std.proofs.lemmas.Bool.{and_parts, cases_Bool, eq-eqb, eqb-true, not-true, or_left, or_right}
use Rattle.std.proofs.lemmas.List.{append-nil, get_or_at, take_at}
use Rattle.std.proofs.lemmas.List.Elements.{filter-append}
use Rattle.std.proofs.lemmas.List.Quantifiers.{position-Some}
use Rattle.sig_base.specs.declared.values.Row.{Row}
use Rattle.sig_base.proofs.Common.{clash}
use Rattle.gap_map.specs.declared.stretch.Stretch.{Stretch}
use Rattle.gap_map.specs.Stretches.{IsCut, known_at, known_in}
use Rattle.span_set.specs.declared.set.Span.{Span}
use Rattle.channel_tables.specs.declared.spec.Spec.{Spec}
use Rattle.reach.specs.Runs.{State}
use Rattle.board.specs.History.{events_at}
use Rattle.board.specs.Logs.{HourLog, end_tenth, first_tenth, no_row, no_spec}
use Rattle.board.specs.Verdicts.{MayPassRow}
use Rattle.board.proofs.Cutting.{events_join, none_after}
use Rattle.hour_store.specs.Store.{Store, is_known, known_rows as all_known}
use Rattle.signal_log.specs.Log.{log_of, track_at}
use Rattle.signal_log.specs.Points.{HasHour}
use Rattle.signal_log.specs.States.{MayBeAfter}
use Rattle.signal_log.specs.Views.{AreSameOrAlike, before_in_tenth, tenth_of}
use Rattle.signal_log.proofs.Stored.{cut_known, events_filter, known_cut}
use Rattle.ring_config.specs.Settings.{Settings, is_same_channel, spec_place}
use Rattle.ring_config.specs.declared.items.Approach.{Approach}
use Rattle.hour_sweep.specs.Rows.{known_rows}
use Rattle.hour_sweep.specs.Hours.{AreOrdered, point}
use Rattle.hour_sweep.proofs.Orders.{below_end, rise_ordered}
use Rattle.service_cut.proofs.YellowEnds.{from_first}
use Rattle.arrival_measures.specs.declared.points.Point.{Point}
use Rattle.arrival_measures.specs.Faults.{arrivals_from, faulty, is_arrival}
use Rattle.arrival_measures.specs.Judged.{AllPass}
use Rattle.arrival_measures.specs.Points.{ArePicked, ArePointsOf, IsArrival, detector_channel as detector, is_ahead, is_fault, is_on_at, points_at, points_from}
use Rattle.arrival_measures.specs.Views.{IsSeen}
use Rattle.arrival_measures.proofs.Carried.{points_same}
use Rattle.arrival_measures.proofs.Each.{length_push}
use Rattle.arrival_measures.proofs.RowPoints.{has_of, on_has}
use Rattle.hour_work.specs.Sure.{IsInFault}
use Rattle.hour_work.proofs.Before.{faulty_is_sure}
use Rattle.hour_work.specs.Points.{Carried, IsCarryAt}
use Rattle.hour_work.specs.Reports.{IsHourSeen}
use Rattle.hour_work.specs.Rows.{earlier_rows, own_rows}
use Rattle.hour_work.proofs.GreenLaws.{parts_are}
use Rattle.hour_work.proofs.MeasureLaws.{hour_is, own_known}
use Rattle.hour_work.proofs.SeenLaws.{seen_log, seen_rows, seen_shown, tells}
use Rattle.hour_work.proofs.WholeLog.{earlier_ordered, hour_within, rows_of_order}

-- ---- a row with a detector ahead

on_code : (o : Option ℕ) (x : Row) → is_on_at o x ≡ true → eqb x.code 82 ≡ true
on_code None x e = absurd (let bad : false ≡ true = e in cc)
on_code (Some d) x e = (and_parts (eqb x.code 82) (eqb x.param d) e).0

ahead_code : (p : ℕ) (all : List Approach) (x : Row) → is_ahead p all x ≡ true → eqb x.code 82 ≡ true
ahead_code p [] x e = absurd (let bad : false ≡ true = e in cc)
ahead_code p (a ∷ all) x e = elim (cases_Bool (eqb a.phase p && is_on_at a.advance x)) [
  | inl here ↦ on_code a.advance x (and_parts (eqb a.phase p) (is_on_at a.advance x) here).1
  | inr other ↦ ahead_code p all x (rw other at e)
]

ahead_has : (p : ℕ) (all : List Approach) (x : Row) → is_ahead p all x ≡ true → list_any (has_of x.param) all ≡ true
ahead_has p [] x e = absurd (let bad : false ≡ true = e in cc)
ahead_has p (a ∷ all) x e = elim (cases_Bool (eqb a.phase p && is_on_at a.advance x)) [
  | inl here ↦ or_left (has_of x.param a) (list_any (has_of x.param) all) (on_has a a.advance x refl (and_parts (eqb a.phase p) (is_on_at a.advance x) here).1)
  | inr other ↦ or_right (has_of x.param a) (list_any (has_of x.param) all) (ahead_has p all x (rw other at e))
]

none_ahead : (p i : ℕ) (all : List Approach) (x : Row) → is_ahead p all x ≡ false → points_at p i all x ≡ []
none_ahead p i [] x e = refl
none_ahead p i (a ∷ all) x e = elim (cases_Bool (eqb a.phase p && is_on_at a.advance x)) [
  | inl here ↦ absurd (let bad : true ≡ false = rw here at e in cc)
  | inr other ↦ rw other (none_ahead p (i + 1) all x (rw other at e))
]

-- ---- picked rows, and the known rows before them

-- the row is picked exactly where it is known, has a detector ahead, and isn't a fault row by these known rows before it
record IsPickedBy (c : Settings) (p : ℕ) (known : ℕ → Bool) (Is : Type 0) (before : List Row) (x : Row) : Type 0 where
  pub on : Is → (known x.at ≡ true) × (is_ahead p c.approaches x ≡ true) × (faulty known x.at before x.param ≡ false)
  pub back : known x.at ≡ true → is_ahead p c.approaches x ≡ true → faulty known x.at before x.param ≡ false → Is

and_not : (a f : Bool) → a ≡ true → f ≡ false → (a && not f) ≡ true
and_not true false e g = refl
and_not true true e g = absurd (cc)
and_not false f e g = absurd (cc)

module _ (c : Settings) (p : ℕ) (known : ℕ → Bool) where
  abbrev F : Row → List Point
  F = points_at p 0 c.approaches

  -- a known row, where it is an arrival and where it isn't
  arrivals_on : (before xs : List Row) (x : Row) (b : Bool) → known x.at ≡ true → is_arrival known before x ≡ b → arrivals_from known before (known_rows known (x ∷ xs)) ≡ cond b (x ∷ arrivals_from known (before ++ x ∷ []) (known_rows known xs)) (arrivals_from known (before ++ x ∷ []) (known_rows known xs))
  arrivals_on before xs x b held is =
      let rest = arrivals_from known (before ++ x ∷ []) (known_rows known xs) in
      ap (λ v. arrivals_from known before (cond v (x ∷ known_rows known xs) (known_rows known xs))) held
      ∙ ap (λ v. cond v (x ∷ rest) rest) is

  held_push : (earlier first : List Row) (x : Row) → known x.at ≡ true → earlier ++ known_rows known (first ++ x ∷ []) ≡ (earlier ++ known_rows known first) ++ x ∷ []
  held_push earlier first x held =
      ap (λ zs. earlier ++ zs) (filter-append (λ (z : Row). known z.at) first (x ∷ []) ∙ ap (λ v. known_rows known first ++ cond v (x ∷ []) []) held)
      ∙ sym (append_assoc earlier (known_rows known first) (x ∷ []))

  lost_push : (earlier first : List Row) (x : Row) → known x.at ≡ false → earlier ++ known_rows known (first ++ x ∷ []) ≡ earlier ++ known_rows known first
  lost_push earlier first x gap =
      ap (λ zs. earlier ++ zs) (filter-append (λ (z : Row). known z.at) first (x ∷ []) ∙ (ap (λ v. known_rows known first ++ cond v (x ∷ []) []) gap ∙ append-nil (known_rows known first)))

  module _ (P : ℕ → Row → Type 0) (all earlier : List Row) (tells : (first : List Row) (x : Row) (rest : List Row) → all ≡ first ++ x ∷ rest → IsPickedBy c p known (P (length first) x) (earlier ++ known_rows known first) x) where
    abbrev before : List Row → List Row
    before first = earlier ++ known_rows known first

    abbrev Gives : List Row → List Row → List Row → Type 0
    Gives first xs picked = flat_map F picked ≡ flat_map F (arrivals_from known (before first) (known_rows known xs))

    -- a row that is picked
    gives_on : (first xs rest picked : List Row) (x : Row) → known x.at ≡ true → is_ahead p c.approaches x ≡ true → faulty known x.at (before first) x.param ≡ false → picked ≡ x ∷ rest → Gives (first ++ x ∷ []) xs rest → Gives first (x ∷ xs) picked
    gives_on first xs rest picked x held ahead fine e more =
        let B = before first in
        let arrives : is_arrival known B x ≡ true = and_not (eqb x.code 82) (faulty known x.at B x.param) (ahead_code p c.approaches x ahead) fine in
        let next : flat_map F rest ≡ flat_map F (arrivals_from known (B ++ x ∷ []) (known_rows known xs)) = more ∙ ap (λ zs. flat_map F (arrivals_from known zs (known_rows known xs))) (held_push earlier first x held) in
        ap (λ zs. flat_map F zs) e ∙ (ap (λ zs. F x ++ zs) next ∙ sym (ap (λ zs. flat_map F zs) (arrivals_on B xs x true held arrives)))

    -- a known one that isn't
    gives_other : (first xs picked : List Row) (x : Row) → known x.at ≡ true → (is_ahead p c.approaches x ≡ true → faulty known x.at (before first) x.param ≡ false → ⊥) → Gives (first ++ x ∷ []) xs picked → Gives first (x ∷ xs) picked
    gives_other first xs picked x held never more =
        let B = before first in
        let rest = arrivals_from known (B ++ x ∷ []) (known_rows known xs) in
        let next : flat_map F picked ≡ flat_map F rest = more ∙ ap (λ zs. flat_map F (arrivals_from known zs (known_rows known xs))) (held_push earlier first x held) in
        elim (cases_Bool (is_arrival known B x)) [
          | inr fails ↦ next ∙ sym (ap (λ zs. flat_map F zs) (arrivals_on B xs x false held fails))
          | inl arrives ↦
              let fine = not-true (faulty known x.at B x.param) (and_parts (eqb x.code 82) (not (faulty known x.at B x.param)) arrives).1 in
              let none : F x ≡ [] = elim (cases_Bool (is_ahead p c.approaches x)) [
                | inl ahead ↦ absurd (never ahead fine)
                | inr other ↦ none_ahead p 0 c.approaches x other
              ] in
              next ∙ (ap (λ zs. zs ++ flat_map F rest) (sym none) ∙ sym (ap (λ zs. flat_map F zs) (arrivals_on B xs x true held arrives)))
        ]

    -- one that isn't known
    gives_lost : (first xs picked : List Row) (x : Row) → known x.at ≡ false → Gives (first ++ x ∷ []) xs picked → Gives first (x ∷ xs) picked
    gives_lost first xs picked x gap more =
        more
        ∙ (ap (λ zs. flat_map F (arrivals_from known zs (known_rows known xs))) (lost_push earlier first x gap)
        ∙ ap (λ v. flat_map F (arrivals_from known (before first) (cond v (x ∷ known_rows known xs) (known_rows known xs)))) (sym gap))

    picked_told : (first xs picked : List Row) → all ≡ first ++ xs → ArePicked P (length first) xs picked → Gives first xs picked
    unfolding ArePicked
    picked_told first [] picked at h = ap (λ zs. flat_map F zs) h
    picked_told first (x ∷ xs) picked at (inl (is, (rest, e, more))) =
        let told = (tells first x xs at).on is in
        let whole : all ≡ (first ++ x ∷ []) ++ xs = at ∙ sym (append_assoc first (x ∷ []) xs) in
        let next = subst (λ (n : ℕ). ArePicked P n xs rest) (sym (length_push first x)) more in
        gives_on first xs rest picked x told.0 told.1 told.2 e (picked_told (first ++ x ∷ []) xs rest whole next)
    picked_told first (x ∷ xs) picked at (inr (never, more)) =
        let whole : all ≡ (first ++ x ∷ []) ++ xs = at ∙ sym (append_assoc first (x ∷ []) xs) in
        let next = subst (λ (n : ℕ). ArePicked P n xs picked) (sym (length_push first x)) more in
        let rest = picked_told (first ++ x ∷ []) xs picked whole next in
        elim (cases_Bool (known x.at)) [
          | inl held ↦ gives_other first xs picked x held (λ ahead fine. never ((tells first x xs at).back held ahead fine)) rest
          | inr gap ↦ gives_lost first xs picked x gap rest
        ]

-- ---- rows before a tenth

place_of : (c : Settings) (d : ℕ) (o : Option ℕ) → spec_place c.specs (detector d) ≡ o → is_some o ≡ true → (i : ℕ) × (spec_place c.specs (detector d) ≡ Some i)
place_of c d None e h = absurd (let bad : false ≡ true = h in cc)
place_of c d (Some i) e h = (i, e)

-- the states of two kinds are faults alike
faults_alike : (M N : State → Type 0) → ((v : State) → M v → (w : State) × N w × (w.colour ≡ v.colour)) → ((w : State) → N w → (v : State) × M v × (v.colour ≡ w.colour)) → AllPass is_fault M ↔ ((w : State) → N w → w.colour ≡ 2)
faults_alike M N to back = (
  λ all w q. let (v, may, same) = back w q in sym same ∙ eqb-true v.colour 2 (all v may),
  λ all v may. let (w, q, same) = to v may in eq-eqb v.colour 2 (sym same ∙ all w q),
)

-- ---- an hour that is seen

module _ (c : Settings) (s : Store) (hour : ℕ) (carry : Carried) (rows : List Row) (ss : List Stretch) (view : HourLog) (seen : IsHourSeen c s hour carry rows ss view) (p : ℕ) where
  abbrev log : HourLog
  log = seen_log c s hour carry rows ss view seen

  abbrev known : ℕ → Bool
  known = is_known s

  abbrev earlier : List Row
  earlier = earlier_rows s hour

  module _ (first : List Row) (x : Row) (rest : List Row) (at : rows ≡ first ++ x ∷ rest) where
    abbrev n : ℕ
    n = length first

    here : get_or rows n no_row ≡ x
    here = ap (λ (zs : List Row). get_or zs n no_row) at ∙ get_or_at first x rest no_row n refl

    within : n < length rows
    within =
        let size : length rows ≡ length (first ++ x ∷ rest) = ap (λ (zs : List Row). length zs) at in
        let parts = length-append first (x ∷ rest) in
        omega (arith, size, parts)

    order : AreOrdered (first_tenth hour) (end_tenth hour) rows
    order = rise_ordered (first_tenth hour) (end_tenth hour) rows (omega arith) seen.is_view.is_log.is_hour.are_rows.rise

    low : first_tenth hour ≤ x.at
    low = subst (λ (z : Row). first_tenth hour ≤ z.at) here (from_first (first_tenth hour) (end_tenth hour) (first_tenth hour) rows (omega arith) order n no_row within)

    high : x.at < end_tenth hour
    high = subst (λ (z : Row). z.at < end_tenth hour) here (below_end (first_tenth hour) (end_tenth hour) rows order n no_row within)

    same_known : known_at ss x.at ≡ known x.at
    same_known = known_cut s hour x.at ss (cut_known s hour (Some rows) seen.blanks ss seen.between.has_hour seen.cut) low high

    -- the known rows before it have the events of its tenth before it
    events_before : known x.at ≡ true → events_at (take n rows) (tenth_of log n) ≡ events_at (earlier ++ known_rows known first) x.at
    events_before held =
        let store = seen.between.has_hour.is_store in
        let inside = seen.between.has_hour.within in
        let none : events_at earlier x.at ≡ [] = none_after earlier 0 (point hour) x.at (rows_of_order 0 (point hour) earlier (earlier_ordered s hour store (omega (arith, inside)))) low in
        ap (λ (zs : List Row). events_at (take n zs) (tenth_of log n)) at
        ∙ (ap (λ (zs : List Row). events_at zs (tenth_of log n)) (take_at first (x ∷ rest) n refl)
        ∙ (ap (λ (z : Row). events_at first z.at) here
        ∙ sym (events_join earlier (known_rows known first) x.at ∙ (ap (λ es. es ++ events_at (known_rows known first) x.at) none ∙ events_filter known first x.at held))))

    -- its detector is in a fault by the view as it is by all histories
    faults_as : (i : ℕ) → spec_place c.specs (detector x.param) ≡ Some i → known x.at ≡ true → AllPass is_fault (MayPassRow log n i) ↔ IsInFault (log_of c.specs s) i (earlier ++ known_rows known first) x
    faults_as i place held =
        let lt : i < length c.specs = (position-Some (λ (z : Spec). is_same_channel z.channel (detector x.param)) c.specs i no_spec place).0 in
        let is : known_at ss (tenth_of log n) ≡ true = ap (λ (z : Row). known_at ss z.at) here ∙ (same_known ∙ held) in
        let same = (tells c s hour carry rows ss view seen).rows seen.between.history n i within is lt in
        let m = (track_at (log_of c.specs s) i).rules in
        let M = MayPassRow log n i in
        let count : before_in_tenth log n ≡ length (events_at (earlier ++ known_rows known first) x.at) = ap (λ es. length es) (events_before held) in
        let tenth : tenth_of log n ≡ x.at = ap (λ (z : Row). z.at) here in
        let turned = subst (λ (j : ℕ). AreSameOrAlike m (pos (first_tenth hour)) M (MayBeAfter (log_of c.specs s) i (tenth_of log n) j)) count same in
        let told = subst (λ (t : ℕ). AreSameOrAlike m (pos (first_tenth hour)) M (MayBeAfter (log_of c.specs s) i t (length (events_at (earlier ++ known_rows known first) x.at)))) tenth turned in
        faults_alike M (MayBeAfter (log_of c.specs s) i x.at (length (events_at (earlier ++ known_rows known first) x.at)))
        (λ v may. let (w, q, alike) = told.to v may in (w, q, alike.1))
        (λ w q. let (v, may, alike) = told.back w q in (v, may, alike.1))

    own_parts : known x.at ≡ true → own_rows s hour ≡ known_rows known first ++ x ∷ known_rows known rest
    own_parts held =
        sym (seen_rows c s hour carry rows ss view seen)
        ∙ (ap (λ (zs : List Row). known_rows known zs) at
        ∙ (filter-append (λ (z : Row). known z.at) first (x ∷ rest)
        ∙ ap (λ v. known_rows known first ++ cond v (x ∷ known_rows known rest) (known_rows known rest)) held))

    -- it is so exactly where its detector is faulty by the known rows before it
    faulty_as : (i : ℕ) → spec_place c.specs (detector x.param) ≡ Some i → known x.at ≡ true → (faulty known x.at (earlier ++ known_rows known first) x.param ≡ true) ↔ AllPass is_fault (MayPassRow log n i)
    faulty_as i place held =
        let store = seen.between.has_hour.is_store in
        let w = hour_within s hour store seen.between.has_hour.within in
        let parts = parts_are (all_known s) earlier (own_rows s hour) (known_rows known first) x (known_rows known rest) w.later w.parts (own_parts held) in
        let sure = faulty_is_sure c s x.param i (earlier ++ known_rows known first) x (known_rows known rest ++ w.later) seen.sound store seen.between.history place parts in
        let all = faults_as i place held in
        ((λ e. all.1 (sure.0 e)), λ h. sure.1 (all.0 h))

    row_told : IsPickedBy c p known (IsArrival c log p n x) (earlier ++ known_rows known first) x
    row_told = record {
      on = λ is.
          let held = sym same_known ∙ is.is_known in
          let work = is.may_work in
          let fine : faulty known x.at (earlier ++ known_rows known first) x.param ≡ false = elim (cases_Bool (faulty known x.at (earlier ++ known_rows known first) x.param)) [
            | inl fault ↦ absurd (work.not_sure ((faulty_as work.place work.is_place held).0 fault))
            | inr works ↦ works
          ] in
          (held, is.ahead, fine);
      back = λ held ahead fine.
          let has : is_some (spec_place c.specs (detector x.param)) ≡ true = seen.sound.tracked (detector x.param) ∙ ahead_has p c.approaches x ahead in
          let (i, place) = place_of c x.param (spec_place c.specs (detector x.param)) refl has in
          record {
            is_known = same_known ∙ held;
            ahead = ahead;
            may_work = record { place = i; is_place = place; not_sure = λ all. clash (faulty known x.at (earlier ++ known_rows known first) x.param) ((faulty_as i place held).1 all) fine };
          };
    }

  -- the points of the hour by its view are those of its known rows
  pub seen_points : (points : List Point) → ((l : HourLog) → IsSeen c view rows ss l → ArePointsOf c l p points) → points ≡ points_from known c p earlier (own_rows s hour)
  seen_points points h =
      let is = h log (seen_shown c s hour carry rows ss view seen) in
      let F = points_at p 0 c.approaches in
      let told = picked_told c p known (IsArrival c log p) rows earlier row_told [] rows is.arrivals refl is.are_arrivals in
      is.are_points
      ∙ (told
      ∙ (ap (λ zs. flat_map F (arrivals_from known zs (known_rows known rows))) (append-nil earlier)
      ∙ ap (λ zs. flat_map F (arrivals_from known earlier zs)) (seen_rows c s hour carry rows ss view seen)))

  -- so they are those of each store with the same hour, of which the same crosses the point before it
  pub seen_points_of : (points : List Point) → ((l : HourLog) → IsSeen c view rows ss l → ArePointsOf c l p points) → (blanks : List Span) → IsCut (known_in true blanks) (36000 * hour) (36000 * hour + 36000) ss → (other : Store) → HasHour other hour (Some rows) blanks → IsCarryAt c other hour carry → points ≡ points_from (is_known other) c p (earlier_rows other hour) (own_rows other hour)
  seen_points_of points h blanks cut other has is =
      let are = seen.is_view.is_log.is_hour.are_rows in
      let own = hour_is s hour (Some rows) seen.blanks ss seen.between.has_hour are seen.cut in
      let theirs = hour_is other hour (Some rows) blanks ss has are cut in
      seen_points points h
      ∙ (ap (λ zs. points_from known c p earlier zs) (sym (seen_rows c s hour carry rows ss view seen))
      ∙ (points_same c p hour rows ss carry.arrivals seen.sound.approaches known (is_known other) earlier (earlier_rows other hour) own theirs seen.between.is_before.arrivals is.arrivals
      ∙ ap (λ zs. points_from (is_known other) c p (earlier_rows other hour) zs) (own_known other hour (Some rows) has.held)))
