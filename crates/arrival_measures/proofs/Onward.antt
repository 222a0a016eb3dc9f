-- What crosses the point after an hour, from the hour's last rows.
use Rattle.std.proofs.Common.{◌≡◌, ℕ, ◌+◌, ◌-◌, ◌^◌, ◌<◌, ◌≤◌, Bool, true, ◌&&◌, leb, ltb, List, [], ◌∷◌, ◌++◌, Option, Some, None, map, refl, ap, sym, subst, ◌∙◌, arith, inl, inr}
use Rattle.std.specs.Prelude.{All, IfSome, max}
use Rattle.std.specs.List.{filter}
use Rattle.std.proofs.lemmas.Bool.{and_parts, cases_lt, le-leb, leb-true, lt-leb}
use Rattle.std.proofs.lemmas.List.Elements.{All-append, All-filter, filter-append, filter_passes}
use Rattle.sig_base.specs.declared.values.Row.{Row}
use Rattle.hour_sweep.specs.Rows.{known_rows}
use Rattle.hour_sweep.specs.Hours.{AreOrdered, IsHour, point}
use Rattle.hour_sweep.proofs.Orders.{ordered-append, ordered_from}
use Rattle.service_cut.specs.declared.items.OpenCycle.{OpenCycle}
use Rattle.service_cut.proofs.YellowEnds.{from_first}
use Rattle.ring_config.specs.Settings.{Settings}
use Rattle.arrival_measures.specs.declared.carry_over.PassingRows.{PassingRows}
use Rattle.arrival_measures.specs.declared.faults.Detections.{Detections}
use Rattle.arrival_measures.specs.declared.faults.Flag.{Flag}
use Rattle.arrival_measures.specs.declared.open.Open.{Open}
use Rattle.arrival_measures.specs.Arrivals.{is_on, ons_of, rows_within}
use Rattle.arrival_measures.specs.Crossing.{CarryParts, IsCarry, all_flags, flags_of, has_detector, open_since}
use Rattle.arrival_measures.specs.Faults.{arrivals_from, is_arrival}
use Rattle.arrival_measures.specs.Onward.{ArePassingRows, counts_from}
use Rattle.arrival_measures.specs.Opens.{open_at}
use Rattle.arrival_measures.specs.Own.{turns_green}
use Rattle.arrival_measures.specs.Travel.{arrivals_at, from_tenth, shifted, told}
use Rattle.arrival_measures.specs.Steps.{AreDetections, IsCycleOf, IsOpenUnderWay, is_faultless, merged, moved, of_approaches, row_on}
use Rattle.arrival_measures.proofs.Arriving.{ons_kept}
use Rattle.arrival_measures.proofs.Faultless.{ons_all}
use Rattle.arrival_measures.proofs.Hours.{all_kept, hour_ordered, passing_all}
use Rattle.arrival_measures.proofs.Merging.{merged_first, merged_ordered, merged_second}
use Rattle.arrival_measures.proofs.Own.{and_part, filter_filter, filter_swap}
use Rattle.arrival_measures.proofs.Parts.{open_by_parts}
use Rattle.arrival_measures.proofs.Telling.{early, in_order, late, late_is, late_on, open_told, own, turns_ordered as all_turns_ordered, under_way, within-append}
use Rattle.arrival_measures.proofs.Travels.{AllOn, arrivals_in, at_on, at_ordered, in_on, in_ordered, kept_ordered, late_late, late_ordered, moved_are, no_ons, no_turns, passing_ordered, rows_are, wider}
use Rattle.arrival_measures.proofs.Within.{filter_same}

-- ---- rows before a tenth are left out

-- in a cycle from tenth a on none of them counts, where all stand from tenth t on
pub within_late : (a b t e u : ℕ) (xs : List Row) → u ≡ max a t → AreOrdered t e xs → rows_within a b (from_tenth u xs) ≡ rows_within a b xs
within_late a b t e u xs at or =
    filter_filter (λ x. leb a x.at && ltb x.at b) (λ x. leb u x.at) xs
    ∙ filter_same (λ x. t ≤ x.at) (λ x. leb u x.at && (leb a x.at && ltb x.at b)) (λ x. leb a x.at && ltb x.at b) xs
    (λ x low. and_part (leb u x.at) (leb a x.at && ltb x.at b) (λ h. let lo = leb-true a x.at (and_parts (leb a x.at) (ltb x.at b) h).0 in le-leb u x.at (omega arith)))
    (from_first t e t xs (omega arith) or)

-- the arrivals that come from tenth u on are those of the rows from a travel time before it on
pub shifted_late : (u v : ℕ) (xs : List Row) → map (shifted v) (from_tenth (u - v) xs) ≡ from_tenth u (map (shifted v) xs)
shifted_late u v [] = refl
shifted_late u v (x ∷ xs) = elim (cases_lt (x.at + v) u) [
  | inl lt ↦ rw (lt-leb (u - v) x.at (omega arith), lt-leb u (x.at + v) lt) (shifted_late u v xs)
  | inr le ↦ rw (le-leb (u - v) x.at (omega arith), le-leb u (x.at + v) le) (ap (λ zs. shifted v x ∷ zs) (shifted_late u v xs))
]

-- ---- rows of a cycle that pass a test

module _ (known : ℕ → Bool) (P : Row → Bool) (a b : ℕ) where
  tests_swap : (xs : List Row) → filter P (rows_within a b (known_rows known xs)) ≡ known_rows known (rows_within a b (filter P xs))
  tests_swap xs =
      let W : Row → Bool = λ x. leb a x.at && ltb x.at b in
      filter_swap P W (known_rows known xs)
      ∙ ap (λ zs. filter W zs) (filter_swap P (λ x. known x.at) xs)
      ∙ filter_swap W (λ x. known x.at) (filter P xs)

  pub same_part : (before xs ys fs gs : List Row) → filter P xs ≡ filter P fs → filter P ys ≡ filter P gs → rows_within a b fs ≡ rows_within a b gs → filter P (rows_within a b (before ++ known_rows known xs)) ≡ filter P (rows_within a b (before ++ known_rows known ys))
  same_part before xs ys fs gs f g same =
      let W : Row → Bool = λ x. leb a x.at && ltb x.at b in
      let both = λ (zs : List Row). ap (λ rs. filter P rs) (within-append a b before (known_rows known zs)) ∙ filter-append P (rows_within a b before) (rows_within a b (known_rows known zs)) in
      let inner : rows_within a b (filter P xs) ≡ rows_within a b (filter P ys) =
      ap (λ zs. rows_within a b zs) f ∙ filter_swap W P fs ∙ ap (λ zs. filter P zs) same ∙ sym (filter_swap W P gs) ∙ ap (λ zs. rows_within a b zs) (sym g) in
      both xs
      ∙ ap (λ zs. filter P (rows_within a b before) ++ zs) (tests_swap xs ∙ ap (λ zs. known_rows known zs) inner ∙ sym (tests_swap ys))
      ∙ sym (both ys)

-- an hour from tenth t on, of whose rows those before tenth u are left out
module _ (known : ℕ → Bool) (p d v t u : ℕ) (before rows : List Row) (first : AreOrdered 0 t before) (ordered : AreOrdered t (t + 36000) rows) (travel : v ≤ 300) where
  abbrev seen : List Row
  seen = known_rows known rows

  abbrev old : List Row
  old = from_tenth t (arrivals_at known d v before)

  abbrev new : List Row
  new = arrivals_in known d v before seen

  abbrev turns : List Row
  turns = filter (turns_green p) (from_tenth u rows)

  abbrev pub last : List Row
  last = old ++ from_tenth u new

  abbrev pub few : List Row
  few = merged turns last

  seen_ordered : AreOrdered t (t + 36000) seen
  seen_ordered = kept_ordered (λ x. known x.at) t (t + 36000) t rows (omega arith) ordered

  new_ordered : AreOrdered (t + v) (t + 36300) new
  new_ordered =
      wider (t + v) (t + 36000 + v) (t + 36300) new (omega arith) (in_ordered known d v before t (t + 36000) seen seen_ordered)

  pub last_ordered : AreOrdered t (t + 36300) last
  last_ordered = ordered-append t (t + v) (t + 36300) old (from_tenth u new)
      (late_ordered t (0 + v) (t + v) (arrivals_at known d v before) (omega arith) (at_ordered known d v 0 t before first))
      (kept_ordered (λ x. leb u x.at) (t + v) (t + 36300) (t + v) new (omega arith) new_ordered)

  old_on : AllOn d old
  old_on = All-filter (λ x. leb t x.at) (λ x. is_on d x ≡ true) (arrivals_at known d v before) (at_on known d v before)

  last_on : AllOn d last
  last_on = All-append (λ x. is_on d x ≡ true) old (from_tenth u new)
      old_on
      (All-filter (λ x. leb u x.at) (λ x. is_on d x ≡ true) new (in_on known d v before seen))

  turns_ordered : AreOrdered t (t + 36300) turns
  turns_ordered = wider t (t + 36000) (t + 36300) turns (omega arith) (kept_ordered (turns_green p) t (t + 36000) t (from_tenth u rows) (omega arith) (kept_ordered (λ x. leb u x.at) t (t + 36000) t rows (omega arith) ordered))

  -- the arrivals as the code makes them, where at known tenths among the rows that it takes those of the detector are its arrivals
  pub arriving_late : (pending : List ℕ) (passing ons arriving : List Row) → t + 36300 < 2 ^ 32 → ons_of d (known_rows known passing) ≡ ons_of d (arrivals_from known before seen) → pending ≡ map (λ (x : Row). x.at) old → ons ≡ known_rows known (ons_of d (from_tenth (u - v) passing)) → arriving ≡ map (row_on d) pending ++ map (moved v) ons → arriving ≡ last
  arriving_late pending passing ons arriving high same ep eo e =
      let of_hour = ons_of d (arrivals_from known before seen) in
      let K : Row → Bool = λ x. known x.at in
      let few_ons : ons ≡ from_tenth (u - v) of_hour =
      eo
      ∙ ap (λ zs. known_rows known zs) (filter_swap (is_on d) (λ x. leb (u - v) x.at) passing)
      ∙ filter_swap K (λ x. leb (u - v) x.at) (ons_of d passing)
      ∙ ap (λ zs. from_tenth (u - v) zs) (filter_swap K (is_on d) passing ∙ same) in
      let hour_ordered = kept_ordered (is_on d) t (t + 36000) t (arrivals_from known before seen) (omega arith) (passing_ordered (is_arrival known) before t (t + 36000) t seen (omega arith) seen_ordered) in
      e
      ∙ ap (λ ts. map (row_on d) ts ++ map (moved v) ons) ep
      ∙ ap (λ zs. zs ++ map (moved v) ons) (rows_are d old old_on)
      ∙ ap (λ zs. old ++ map (moved v) zs) few_ons
      ∙ ap (λ zs. old ++ zs) (moved_are v t (t + 36000) (from_tenth (u - v) of_hour) (kept_ordered (λ x. leb (u - v) x.at) t (t + 36000) t of_hour (omega arith) hour_ordered) (omega arith) ∙ shifted_late u v of_hour)

  -- the vehicles that are still to come at tenth `to`
  pub pending_same : (to : ℕ) → u ≤ to → from_tenth to last ≡ from_tenth to (late known p d v t before rows first ordered travel)
  pending_same to le =
      filter-append (λ x. leb to x.at) old (from_tenth u new)
      ∙ ap (λ zs. from_tenth to old ++ zs) (late_late u to new le)
      ∙ sym (filter-append (λ x. leb to x.at) old new)
      ∙ ap (λ zs. from_tenth to zs) (sym (late_is known p d v t before rows first ordered travel))

  -- a cycle gives the same
  few_told : (a b : ℕ) → u ≡ max a t → a ≤ b → ((k : ℕ) → a ≤ k → k < b → known k ≡ true) → open_at p d a b (early known p d v t before rows first ordered travel ++ known_rows known few) ≡ open_at p d a b (told known p d v (before ++ seen))
  few_told a b at le kn =
      let F = turns_green p in
      let W : Row → Bool = λ x. leb a x.at && ltb x.at b in
      let E = early known p d v t before rows first ordered travel in
      let O = own known p d v t before rows first ordered travel in
      let L = late known p d v t before rows first ordered travel in
      let all_turns = all_turns_ordered known p d v t before rows first ordered travel in
      let in_hour = in_order known p d v t before rows first ordered travel in
      let late_is_on = late_on known p d v t before rows first ordered travel in
      let same_turns : rows_within a b turns ≡ rows_within a b (filter F rows) =
      filter_swap W F (from_tenth u rows) ∙ ap (λ zs. filter F zs) (within_late a b t (t + 36000) u rows at ordered) ∙ sym (filter_swap W F rows) in
      let same_ons : rows_within a b last ≡ rows_within a b L =
      within-append a b old (from_tenth u new)
      ∙ ap (λ zs. rows_within a b old ++ zs) (within_late a b t (t + 36300) u new at (ordered_from t (t + v) (t + 36300) new (omega arith) new_ordered))
      ∙ sym (within-append a b old new)
      ∙ ap (λ zs. rows_within a b zs) (sym (late_is known p d v t before rows first ordered travel)) in
      open_by_parts p d a b (E ++ known_rows known few) (E ++ known_rows known O)
      (same_part known F a b E few O turns (filter F rows)
      (merged_first F t (t + 36300) turns last turns_ordered last_ordered (no_turns p d last last_on))
      (merged_first F t (t + 36300) (filter F rows) L all_turns in_hour (no_turns p d L late_is_on)) same_turns)
      (same_part known (is_on d) a b E few O last L
      (merged_second (is_on d) t (t + 36300) turns last turns_ordered last_ordered (no_ons p d (from_tenth u rows)))
      (merged_second (is_on d) t (t + 36300) (filter F rows) L all_turns in_hour (no_ons p d rows)) same_ons)
      le
      ∙ open_told known p d v t before rows first ordered travel a b le kn

  pub few_under_way : (begun : Option Open) (to : ℕ) (o : Option OpenCycle) → All (λ x. x.at < t) before → IfSome o (λ y. IsCycleOf known p d t (told known p d v before) begun y.from to) → IsOpenUnderWay known p d (early known p d v t before rows first ordered travel) few t (t + 36300) begun to o
  few_under_way begun to None low h = tt
  few_under_way begun to (Some y) low h =
      let way = under_way known p d v t before rows first ordered travel begun y.from to low h in
      record { ordered = merged_ordered t (t + 36300) turns last turns_ordered last_ordered; earlier = way.earlier; order = way.order; later = way.later; all_known = way.all_known; is_begun = way.is_begun }

  pub few_given : (begun : Option Open) (to : ℕ) (o : Option OpenCycle) → u ≡ counts_from t o → IfSome o (λ y. IsCycleOf known p d t (told known p d v before) begun y.from to) → open_since p d to (early known p d v t before rows first ordered travel ++ known_rows known few) o ≡ open_since p d to (told known p d v (before ++ seen)) o
  few_given begun to None e h = refl
  few_given begun to (Some y) e h = ap (λ z. Some z) (few_told y.from to e h.order h.all_known)

-- what counts does so before the hour's end
pub counts_early : (known : ℕ → Bool) (p d t u : ℕ) (rows : List Row) (begun : Option Open) (to : ℕ) (o : Option OpenCycle) → u ≡ counts_from t o → to ≡ t + 36000 → IfSome o (λ y. IsCycleOf known p d t rows begun y.from to) → u ≤ to
counts_early known p d t u rows begun to None e end h = omega arith
counts_early known p d t u rows begun to (Some y) e end h = let order = h.order in omega arith

-- the hour's rows with the arrivals that were found among them
pub rows_found : (known : ℕ → Bool) (c : Settings) (before : List Row) (hour : ℕ) (carry : CarryParts) (s : PassingRows) (found : Detections) → IsHour known hour s.rows.now s.stretches.now → IsCarry known c before hour carry → AreDetections known c before (known_rows known s.rows.now) found → s.passing.now ≡ found.arrivals.items → s.first ≡ point hour → ArePassingRows known c before hour s
rows_found known c before hour carry s found h is are e first =
    let t = point hour in
    let rows = s.rows.now in
    let seen = known_rows known rows in
    let seen_in_order = kept_ordered (λ x. known x.at) t (t + 36000) t rows (omega arith) (hour_ordered known hour rows s.stretches.now h) in
    let of_hour = arrivals_from known before seen in
    let here : s.passing.now ≡ of_approaches c of_hour = e ∙ are.arrivals in
    let K : Row → Type 0 = λ x. known x.at ≡ true in
    let all_known : known_rows known of_hour ≡ of_hour = all_kept (λ x. known x.at) of_hour (passing_all K (is_arrival known) before seen (filter_passes (λ (x : Row). known x.at) rows)) in
    record {
      is_hour = h;
      ordered = is.ordered;
      earlier = is.earlier;
      in_order = subst (λ (zs : List Row). AreOrdered t (t + 36000) zs) (sym here) (kept_ordered (λ x. has_detector c x.param) t (t + 36000) t of_hour (omega arith) (passing_ordered (is_arrival known) before t (t + 36000) t seen (omega arith) seen_in_order));
      arrivals = λ d has.
          ap (λ zs. ons_of d (known_rows known zs)) here
          ∙ ap (λ zs. ons_of d zs) (filter_swap (λ x. known x.at) (λ x. has_detector c x.param) of_hour ∙ ap (λ zs. of_approaches c zs) all_known)
          ∙ ons_kept c d of_hour has;
      first = first;
    }

-- and where each known row at which a detector goes on is one
pub rows_all : (known : ℕ → Bool) (c : Settings) (before : List Row) (hour : ℕ) (carry : CarryParts) (flags : List (Option Flag)) (s : PassingRows) → IsHour known hour s.rows.now s.stretches.now → IsCarry known c before hour carry → all_flags flags ≡ flags_of known c (point hour) before → is_faultless flags s.rows.now ≡ true → s.passing.now ≡ s.rows.now → s.first ≡ point hour → ArePassingRows known c before hour s
rows_all known c before hour carry flags s h is told none e first = record {
  is_hour = h;
  ordered = is.ordered;
  earlier = is.earlier;
  in_order = subst (λ (zs : List Row). AreOrdered (point hour) (point hour + 36000) zs) (sym e) (hour_ordered known hour s.rows.now s.stretches.now h);
  arrivals = λ d has. ap (λ zs. ons_of d (known_rows known zs)) e ∙ ons_all known c before hour s.rows.now s.stretches.now flags h told none d has;
  first = first;
}
