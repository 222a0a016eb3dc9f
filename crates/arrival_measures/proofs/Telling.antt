-- What the hour's rows of an approach tell of its cycles.
use Rattle.std.proofs.Common.{◌≡◌, ℕ, ◌+◌, ◌<◌, ◌≤◌, Bool, true, ◌&&◌, leb, ltb, List, ◌++◌, Option, Some, ap, sym, ◌∙◌, append_assoc, arith}
use Rattle.std.specs.Prelude.{All}
use Rattle.std.specs.List.{filter}
use Rattle.std.proofs.lemmas.Bool.{and_parts, leb-true, ltb-true}
use Rattle.std.proofs.lemmas.List.{append-nil}
use Rattle.std.proofs.lemmas.List.Elements.{All-append, All-filter, filter-append, filter_passes}
use Rattle.sig_base.specs.declared.values.Row.{Row}
use Rattle.hour_sweep.specs.Rows.{known_rows}
use Rattle.hour_sweep.specs.Hours.{AreOrdered}
use Rattle.hour_sweep.proofs.Orders.{ordered-append, ordered_from}
use Rattle.arrival_measures.specs.declared.open.Open.{Open}
use Rattle.arrival_measures.specs.Arrivals.{is_on, ons_of, rows_within}
use Rattle.arrival_measures.specs.Own.{turns_green}
use Rattle.arrival_measures.specs.Opens.{open_at}
use Rattle.arrival_measures.proofs.Own.{filter_less, filter_swap}
use Rattle.arrival_measures.proofs.Parts.{open_by_parts}
use Rattle.service_cut.specs.declared.items.Cycle.{Cycle}
use Rattle.arrival_measures.specs.Travel.{arrivals_at, from_tenth, told}
use Rattle.arrival_measures.specs.Steps.{AreUnderWay, GiveSame, IsCycleOf, IsUnderWay, merged}
use Rattle.arrival_measures.proofs.Merging.{merged_first, merged_ordered, merged_second}
use Rattle.arrival_measures.proofs.Travels.{arrivals_in, arrivals_more, at_on, at_ordered, early_late, in_ordered, kept_ordered, late_all, late_ordered, no_ons, no_turns, on_kept, wider, AllOn}

-- rows of known tenths alone
known_kept : (known : ℕ → Bool) (a b : ℕ) (xs : List Row) → ((t : ℕ) → a ≤ t → t < b → known t ≡ true) → rows_within a b (known_rows known xs) ≡ rows_within a b xs
known_kept known a b xs kn =
    filter_less (λ x. leb a x.at && ltb x.at b) (λ x. known x.at) (λ x e.
    let both = and_parts (leb a x.at) (ltb x.at b) e in
    kn x.at (leb-true a x.at both.0) (ltb-true x.at b both.1)) xs

pub within-append : (a b : ℕ) (xs ys : List Row) → rows_within a b (xs ++ ys) ≡ rows_within a b xs ++ rows_within a b ys
within-append a b xs ys = filter-append (λ x. leb a x.at && ltb x.at b) xs ys

-- an hour from tenth t on, with these rows and these known rows before it
module _ (known : ℕ → Bool) (p d v t : ℕ) (before rows : List Row) (first : AreOrdered 0 t before) (ordered : AreOrdered t (t + 36000) rows) (travel : v ≤ 300) where
  abbrev seen : List Row
  seen = known_rows known rows

  abbrev old : List Row
  old = arrivals_at known d v before

  abbrev all : List Row
  all = arrivals_at known d v (before ++ seen)

  -- told before the hour, of tenths before it
  abbrev pub early : List Row
  early = filter (turns_green p) before ++ filter (λ x. ltb x.at t) old

  abbrev pub late : List Row
  late = from_tenth t all

  abbrev pub own : List Row
  own = merged (filter (turns_green p) rows) late

  seen_ordered : AreOrdered t (t + 36000) seen
  seen_ordered = kept_ordered (λ x. known x.at) t (t + 36000) t rows (omega arith) ordered

  new_ordered : AreOrdered t (t + 36300) (arrivals_in known d v before seen)
  new_ordered =
      let shifted = in_ordered known d v before t (t + 36000) seen seen_ordered in
      ordered_from t (t + v) (t + 36300) (arrivals_in known d v before seen) (omega arith) (wider (t + v) (t + 36000 + v) (t + 36300) (arrivals_in known d v before seen) (omega arith) shifted)

  -- the late ones are those that were pending, and those of the hour
  pub late_is : late ≡ from_tenth t old ++ arrivals_in known d v before seen
  late_is =
      ap (λ zs. from_tenth t zs) (arrivals_more known d v before seen)
      ∙ filter-append (λ x. leb t x.at) old (arrivals_in known d v before seen)
      ∙ ap (λ zs. from_tenth t old ++ zs) (late_all t (t + 36300) (arrivals_in known d v before seen) new_ordered)

  old_ordered : AreOrdered (0 + v) (t + v) old
  old_ordered = at_ordered known d v 0 t before first

  early_all : filter (λ x. ltb x.at t) old ++ late ≡ all
  early_all =
      ap (λ zs. filter (λ x. ltb x.at t) old ++ zs) late_is
      ∙ sym (append_assoc (filter (λ x. ltb x.at t) old) (from_tenth t old) (arrivals_in known d v before seen))
      ∙ ap (λ zs. zs ++ arrivals_in known d v before seen) (early_late t (0 + v) (t + v) old old_ordered)
      ∙ sym (arrivals_more known d v before seen)

  all_on : AllOn d all
  all_on = at_on known d v (before ++ seen)

  pub late_on : AllOn d late
  late_on = All-filter (λ x. leb t x.at) (λ x. is_on d x ≡ true) all all_on

  old_on : AllOn d old
  old_on = at_on known d v before

  early_on : AllOn d (filter (λ x. ltb x.at t) old)
  early_on = All-filter (λ x. ltb x.at t) (λ x. is_on d x ≡ true) old old_on

  pub turns_ordered : AreOrdered t (t + 36300) (filter (turns_green p) rows)
  turns_ordered = wider t (t + 36000) (t + 36300) (filter (turns_green p) rows) (omega arith) (kept_ordered (turns_green p) t (t + 36000) t rows (omega arith) ordered)

  pub in_order : AreOrdered t (t + 36300) late
  in_order =
      let shifted = at_ordered known d v 0 (t + 36000) (before ++ seen) (ordered-append 0 t (t + 36000) before seen first seen_ordered) in
      late_ordered t (0 + v) (t + 36300) all (omega arith) (wider (0 + v) (t + 36000 + v) (t + 36300) all (omega arith) shifted)

  own_ordered : AreOrdered t (t + 36300) own
  own_ordered = merged_ordered t (t + 36300) (filter (turns_green p) rows) late turns_ordered in_order

  -- the same begins and ends of green
  turns_same : filter (turns_green p) (early ++ known_rows known own) ≡ filter (turns_green p) (told known p d v (before ++ seen))
  unfolding told
  turns_same =
      let F = turns_green p in
      let twice = λ (xs : List Row). filter_less F F (λ x e. e) xs in
      let first_part : filter F early ≡ filter F before =
      filter-append F (filter F before) (filter (λ x. ltb x.at t) old)
      ∙ ap (λ zs. filter F (filter F before) ++ zs) (no_turns p d (filter (λ x. ltb x.at t) old) early_on)
      ∙ append-nil (filter F (filter F before)) ∙ twice before in
      let of_own : filter F own ≡ filter F rows = merged_first F t (t + 36300) (filter F rows) late turns_ordered in_order (no_turns p d late late_on) ∙ twice rows in
      let second_part : filter F (known_rows known own) ≡ filter F seen =
      filter_swap F (λ x. known x.at) own ∙ ap (λ zs. known_rows known zs) of_own ∙ sym (filter_swap F (λ x. known x.at) rows) in
      let whole : filter F (filter F (before ++ seen) ++ all) ≡ filter F (before ++ seen) =
      filter-append F (filter F (before ++ seen)) all
      ∙ ap (λ zs. filter F (filter F (before ++ seen)) ++ zs) (no_turns p d all all_on)
      ∙ append-nil (filter F (filter F (before ++ seen))) ∙ twice (before ++ seen) in
      filter-append F early (known_rows known own)
      ∙ ap (λ zs. zs ++ filter F (known_rows known own)) first_part
      ∙ ap (λ zs. filter F before ++ zs) second_part
      ∙ sym (filter-append F before seen)
      ∙ sym whole

  -- the same arrivals, in tenths that are known
  ons_same : (a b : ℕ) → ((k : ℕ) → a ≤ k → k < b → known k ≡ true) → rows_within a b (ons_of d (early ++ known_rows known own)) ≡ rows_within a b (ons_of d (told known p d v (before ++ seen)))
  unfolding told
  ons_same a b kn =
      let F = turns_green p in
      let E = filter (λ x. ltb x.at t) old in
      let first_part : ons_of d early ≡ E =
      filter-append (is_on d) (filter F before) E ∙ ap (λ zs. zs ++ ons_of d E) (no_ons p d before) ∙ on_kept d E early_on in
      let second_part : ons_of d (known_rows known own) ≡ known_rows known late =
      filter_swap (is_on d) (λ x. known x.at) own
      ∙ ap (λ zs. known_rows known zs) (merged_second (is_on d) t (t + 36300) (filter F rows) late turns_ordered in_order (no_ons p d rows) ∙ on_kept d late late_on) in
      let whole : ons_of d (filter F (before ++ seen) ++ all) ≡ all =
      filter-append (is_on d) (filter F (before ++ seen)) all ∙ ap (λ zs. zs ++ ons_of d all) (no_ons p d (before ++ seen)) ∙ on_kept d all all_on in
      ap (λ zs. rows_within a b zs) (filter-append (is_on d) early (known_rows known own) ∙ ap (λ zs. zs ++ ons_of d (known_rows known own)) first_part ∙ ap (λ zs. E ++ zs) second_part)
      ∙ within-append a b E (known_rows known late)
      ∙ ap (λ zs. rows_within a b E ++ zs) (known_kept known a b late kn)
      ∙ sym (within-append a b E late)
      ∙ ap (λ zs. rows_within a b zs) (early_all ∙ sym whole)

  -- a cycle gives the same
  pub open_told : (a b : ℕ) → a ≤ b → ((k : ℕ) → a ≤ k → k < b → known k ≡ true) → open_at p d a b (early ++ known_rows known own) ≡ open_at p d a b (told known p d v (before ++ seen))
  open_told a b le kn =
      let W : Row → Bool = λ x. leb a x.at && ltb x.at b in
      let xs = early ++ known_rows known own in
      let ys = told known p d v (before ++ seen) in
      open_by_parts p d a b xs ys
      (filter_swap (turns_green p) W xs ∙ ap (λ zs. filter W zs) turns_same ∙ sym (filter_swap (turns_green p) W ys))
      (filter_swap (is_on d) W xs ∙ ons_same a b kn ∙ sym (filter_swap (is_on d) W ys))
      le

  -- what had begun before the hour
  open_early : (a : ℕ) → a ≤ t → open_at p d a t (told known p d v before) ≡ open_at p d a t early
  unfolding told
  open_early a le =
      let F = turns_green p in
      let W : Row → Bool = λ x. leb a x.at && ltb x.at t in
      let E = filter (λ x. ltb x.at t) old in
      let xs = filter F before ++ old in
      let turns : filter F xs ≡ filter F early =
      filter-append F (filter F before) old
      ∙ ap (λ zs. filter F (filter F before) ++ zs) (no_turns p d old old_on ∙ sym (no_turns p d E early_on))
      ∙ sym (filter-append F (filter F before) E) in
      let ons : filter W (ons_of d xs) ≡ filter W (ons_of d early) =
      ap (λ zs. filter W zs) (filter-append (is_on d) (filter F before) old ∙ ap (λ zs. zs ++ ons_of d old) (no_ons p d before) ∙ on_kept d old old_on)
      ∙ sym (filter_less W (λ x. ltb x.at t) (λ x e. (and_parts (leb a x.at) (ltb x.at t) e).1) old)
      ∙ ap (λ zs. filter W zs) (sym (filter-append (is_on d) (filter F before) E ∙ ap (λ zs. zs ++ ons_of d E) (no_ons p d before) ∙ on_kept d E early_on)) in
      open_by_parts p d a t xs early
      (filter_swap F W xs ∙ ap (λ zs. filter W zs) turns ∙ sym (filter_swap F W early))
      (filter_swap (is_on d) W xs ∙ ons ∙ sym (filter_swap (is_on d) W early))
      le

  early_low : All (λ x. x.at < t) before → All (λ x. x.at < t) early
  early_low low =
      let passes = filter_passes (λ (x : Row). ltb x.at t) old in
      All-append (λ (x : Row). x.at < t) (filter (turns_green p) before) (filter (λ x. ltb x.at t) old) (All-filter (turns_green p) (λ (x : Row). x.at < t) before low) (λ k x lt. ltb-true _ t (passes k x lt))

  pub under_way : (begun : Option Open) (a b : ℕ) → All (λ x. x.at < t) before → IsCycleOf known p d t (told known p d v before) begun a b → IsUnderWay known p d early own t (t + 36300) begun a b
  under_way begun a b low h = record {
    ordered = own_ordered;
    earlier = early_low low;
    order = h.order;
    later = h.later;
    all_known = h.all_known;
    is_begun = λ lt. h.is_begun lt ∙ ap (λ o. Some o) (open_early a (omega arith));
  }

  pub are_under_way : (begun : Option Open) (cycles : List Cycle) → All (λ x. x.at < t) before → All (λ z. z.phase ≡ p → IsCycleOf known p d t (told known p d v before) begun z.from z.to) cycles → AreUnderWay known p d early own t (t + 36300) begun cycles
  are_under_way begun cycles low h = λ k x lt e. under_way begun _ _ low (h k x lt e)

  pub give_same : (begun : Option Open) (cycles : List Cycle) → All (λ z. z.phase ≡ p → IsCycleOf known p d t (told known p d v before) begun z.from z.to) cycles → GiveSame p d (early ++ known_rows known own) (told known p d v (before ++ seen)) cycles
  give_same begun cycles h = λ k x lt e. let c = h k x lt e in open_told _ _ c.order c.all_known
