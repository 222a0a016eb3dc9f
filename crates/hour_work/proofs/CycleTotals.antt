-- The numbers of whole cycles of two parts of a log together.
use Rattle.std.proofs.Common.{◌≡◌, ◌∙◌, ℕ, zero, suc, ◌+◌, ◌-◌, ◌<◌, ◌≤◌, Bool, false, cond, eqb, ◌&&◌, List, [], ◌∷◌, ◌++◌, length, map, sum, Option, Some, None, refl, sym, ap, ap₂, subst, arith}
use Rattle.std.specs.Prelude.{nat_le, nat_lt}
use Rattle.std.specs.List.{count_by, filter}
use Rattle.std.proofs.lemmas.Bool.{and_parts, ltb-true}
use Rattle.std.proofs.lemmas.List.{append-nil, map-append}
use Rattle.std.proofs.lemmas.List.Elements.{filter-append}
use Rattle.std.proofs.lemmas.List.Sums.{sum_by-cons}
use Rattle.sig_base.specs.declared.values.Row.{Row}
use Rattle.sig_base.proofs.Each.{Each}
use Rattle.hour_sweep.specs.Sums.{capped, merged, own}
use Rattle.hour_sweep.proofs.Adding.{sum-add}
use Rattle.hour_sweep.specs.Hours.{AreOrdered}
use Rattle.ring_config.specs.Settings.{Settings}
use Rattle.ring_config.specs.declared.items.Approach.{Approach}
use Rattle.service_cut.specs.declared.items.Cycle.{Cycle}
use Rattle.service_cut.specs.Cut.{cycle_is_in, cycles_from}
use Rattle.service_cut.proofs.HourLists.{cycles_add, cycles_count}
use Rattle.hour_sweep.proofs.SumCommon.{capped_none}
use Rattle.arrival_measures.specs.Arrivals.{is_on, ons_of, rows_within}
use Rattle.arrival_measures.specs.Own.{turns_green}
use Rattle.arrival_measures.specs.Green.{arrivals_in, green_arrivals_in, green_tenths_in, greens, shows_green, tenths_with}
use Rattle.arrival_measures.specs.declared.sums.ArrivalSum.{ArrivalSum}
use Rattle.arrival_measures.specs.Cycles.{CycleNumbers, cycle_tenths, numbers_of}
use Rattle.arrival_measures.specs.Travel.{arrivals_at, told}
use Rattle.arrival_measures.proofs.Travels.{arrivals_in as arrivals_in_hour, arrivals_more, in_ordered, kept_ordered}
use Rattle.arrival_measures.specs.Hours.{HaveCycles, added, cycle_numbers, cycle_part, cycles_of, no_cycles}
use Rattle.arrival_measures.proofs.Telling.{within-append}
use Rattle.hour_work.proofs.PlacedLaws.{each_weaker}
use Rattle.hour_work.proofs.ArrivalLaws.{each_filter, each_kept}
use Rattle.hour_work.proofs.ColourLaws.{none_within}

-- ---- lists

count_same : {X : Type 0} (f g : X → Bool) (xs : List X) → Each (λ x. f x ≡ g x) xs → count_by f xs ≡ count_by g xs
count_same f g [] h = refl
count_same f g (x ∷ xs) h = sum_by-cons (λ y. cond (f y) 1 0) x xs ∙ (ap₂ (λ (m : ℕ) (n : ℕ). m + n) (ap (λ v. cond v 1 0) h.0) (count_same f g xs h.1) ∙ sym (sum_by-cons (λ y. cond (g y) 1 0) x xs))

map_same : {X : Type 0} (f g : X → ℕ) (xs : List X) → Each (λ x. f x ≡ g x) xs → map f xs ≡ map g xs
map_same f g [] h = refl
map_same f g (x ∷ xs) h = ap₂ (λ y ys. y ∷ ys) h.0 (map_same f g xs h.1)

-- ---- up to tenth t the same rows tell the same

within_below : (a b : ℕ) (rows : List Row) → Each (λ x. x.at < b) (rows_within a b rows)
within_below a b [] = tt
within_below a b (x ∷ xs) = each_kept (λ (z : Row). z.at < b) (nat_le a x.at && nat_lt x.at b) x (rows_within a b xs) (λ e. ltb-true x.at b (and_parts (nat_le a x.at) (nat_lt x.at b) e).1) (within_below a b xs)

module _ (t : ℕ) (xs ys : List Row) (same : (a b : ℕ) → b ≤ t → rows_within a b xs ≡ rows_within a b ys) where
  shows_cut : (p a u : ℕ) → u < t → shows_green p a xs u ≡ shows_green p a ys u
  unfolding shows_green
  shows_cut p a u lt = ap (λ zs. greens p false zs) (same a (u + 1) (omega arith))

  tenths_cut : (p a u n : ℕ) → ((k : ℕ) → k < n → u + k < t) → tenths_with (shows_green p a xs) u n ≡ tenths_with (shows_green p a ys) u n
  unfolding tenths_with
  tenths_cut p a u zero low = refl
  tenths_cut p a u (suc n) low =
      let first = low 0 (omega arith) in
      let here = shows_cut p a u (omega arith) in
      let rest = tenths_cut p a (u + 1) n (λ k lt. let l = low (k + 1) (omega arith) in omega arith) in
      ap₂ (λ (v : Bool) (m : ℕ). cond v 1 0 + m) here rest

  arrivals_cut : (d a b : ℕ) → b ≤ t → arrivals_in d a b xs ≡ arrivals_in d a b ys
  arrivals_cut d a b le = ap (λ zs. length (ons_of d zs)) (same a b le)

  green_cut : (p d a b : ℕ) → b ≤ t → green_arrivals_in p d a b xs ≡ green_arrivals_in p d a b ys
  green_cut p d a b le =
      let f = λ (x : Row). is_on d x && shows_green p a xs x.at in
      let g = λ (x : Row). is_on d x && shows_green p a ys x.at in
      ap (λ zs. count_by f zs) (same a b le)
      ∙ count_same f g (rows_within a b ys) (each_weaker (λ (x : Row). x.at < b) (λ x. f x ≡ g x) (rows_within a b ys) (λ x lt. ap (λ v. is_on d x && v) (shows_cut p a x.at (omega arith))) (within_below a b ys))

  green_tenths_cut : (p a b : ℕ) → b ≤ t → green_tenths_in p a b xs ≡ green_tenths_in p a b ys
  green_tenths_cut p a b le = tenths_cut p a a (b - a) (λ k lt. omega arith)

  -- so do the numbers of the cycles that are over by then
  numbers_cut : (p d : ℕ) (cs : List Cycle) → Each (λ c. c.to ≤ t) cs → numbers_of p d xs cs ≡ numbers_of p d ys cs
  unfolding numbers_of
  numbers_cut p d cs over =
      let make : List ℕ → List ℕ → List ℕ → CycleNumbers = λ us vs ws. record { arrivals = capped (sum us); green = capped (sum vs); green_tenths = capped (sum ws); tenths = capped (sum (map cycle_tenths cs)) } in
      let arrivals = λ (rs : List Row) (c : Cycle). arrivals_in d c.from c.to rs in
      let green = λ (rs : List Row) (c : Cycle). green_arrivals_in p d c.from c.to rs in
      let tenths = λ (rs : List Row) (c : Cycle). green_tenths_in p c.from c.to rs in
      let one = map_same (arrivals xs) (arrivals ys) cs (each_weaker (λ (c : Cycle). c.to ≤ t) (λ c. arrivals xs c ≡ arrivals ys c) cs (λ c le. arrivals_cut d c.from c.to le) over) in
      let two = map_same (green xs) (green ys) cs (each_weaker (λ (c : Cycle). c.to ≤ t) (λ c. green xs c ≡ green ys c) cs (λ c le. green_cut p d c.from c.to le) over) in
      let three = map_same (tenths xs) (tenths ys) cs (each_weaker (λ (c : Cycle). c.to ≤ t) (λ c. tenths xs c ≡ tenths ys c) cs (λ c le. green_tenths_cut p c.from c.to le) over) in
      ap (λ us. make us (map (green xs) cs) (map (tenths xs) cs)) one
      ∙ (ap (λ vs. make (map (arrivals ys) cs) vs (map (tenths xs) cs)) two
      ∙ ap (λ ws. make (map (arrivals ys) cs) (map (green ys) cs) ws) three)

-- later rows tell nothing of the tenths before t, nor do their arrivals, which come no earlier
told_cut : (known : ℕ → Bool) (p d v t end : ℕ) (before rows : List Row) → AreOrdered t end rows → (a b : ℕ) → b ≤ t → rows_within a b (told known p d v (before ++ rows)) ≡ rows_within a b (told known p d v before)
unfolding told
told_cut known p d v t end before rows order a b le =
    let F = turns_green p in
    let old = arrivals_at known d v before in
    let new = arrivals_in_hour known d v before rows in
    let turns : rows_within a b (filter F (before ++ rows)) ≡ rows_within a b (filter F before) =
    ap (λ zs. rows_within a b zs) (filter-append F before rows)
    ∙ (within-append a b (filter F before) (filter F rows)
    ∙ (ap (λ zs. rows_within a b (filter F before) ++ zs) (none_within a b t end (filter F rows) le (kept_ordered F t end t rows (omega arith) order))
    ∙ append-nil (rows_within a b (filter F before)))) in
    let ons : rows_within a b (arrivals_at known d v (before ++ rows)) ≡ rows_within a b old =
    ap (λ zs. rows_within a b zs) (arrivals_more known d v before rows)
    ∙ (within-append a b old new
    ∙ (ap (λ zs. rows_within a b old ++ zs) (none_within a b (t + v) (end + v) new (omega arith) (in_ordered known d v before t end rows order))
    ∙ append-nil (rows_within a b old))) in
    within-append a b (filter F (before ++ rows)) (arrivals_at known d v (before ++ rows))
    ∙ (ap₂ (λ us vs. us ++ vs) turns ons
    ∙ sym (within-append a b (filter F before) old))

-- ---- both parts

abbrev both : CycleNumbers → CycleNumbers → CycleNumbers
both a b = record {
  arrivals = capped (a.arrivals + b.arrivals);
  green = capped (a.green + b.green);
  green_tenths = capped (a.green_tenths + b.green_tenths);
  tenths = capped (a.tenths + b.tenths);
}

sums_join : (f : Cycle → ℕ) (cs ds : List Cycle) → capped (sum (map f (cs ++ ds))) ≡ capped (capped (sum (map f cs)) + capped (sum (map f ds)))
sums_join f cs ds = ap (λ zs. capped (sum zs)) (map-append f cs ds) ∙ sum-add (map f cs) (map f ds)

numbers_join : (p d : ℕ) (rows : List Row) (cs ds : List Cycle) → numbers_of p d rows (cs ++ ds) ≡ both (numbers_of p d rows cs) (numbers_of p d rows ds)
unfolding numbers_of
numbers_join p d rows cs ds =
    let make : ℕ → ℕ → ℕ → ℕ → CycleNumbers = λ a g n t. record { arrivals = a; green = g; green_tenths = n; tenths = t } in
    let f1 = λ (c : Cycle). arrivals_in d c.from c.to rows in
    let f2 = λ (c : Cycle). green_arrivals_in p d c.from c.to rows in
    let f3 = λ (c : Cycle). green_tenths_in p c.from c.to rows in
    let all = λ (f : Cycle → ℕ). capped (sum (map f (cs ++ ds))) in
    let parts = λ (f : Cycle → ℕ). capped (capped (sum (map f cs)) + capped (sum (map f ds))) in
    ap (λ (n : ℕ). make n (all f2) (all f3) (all cycle_tenths)) (sums_join f1 cs ds)
    ∙ (ap (λ (n : ℕ). make (parts f1) n (all f3) (all cycle_tenths)) (sums_join f2 cs ds)
    ∙ (ap (λ (n : ℕ). make (parts f1) (parts f2) n (all cycle_tenths)) (sums_join f3 cs ds)
    ∙ ap (λ (n : ℕ). make (parts f1) (parts f2) (parts f3) n) (sums_join cycle_tenths cs ds)))

none_twice : both no_cycles no_cycles ≡ no_cycles
none_twice = rw capped_none refl

over_by : (t : ℕ) (cs : List Cycle) → Each (λ c. c.to ≤ t) (filter (cycle_is_in 0 t) cs)
over_by t [] = tt
over_by t (c ∷ cs) = each_kept (λ (x : Cycle). x.to ≤ t) (nat_le 0 c.to && nat_lt c.to t) c (filter (cycle_is_in 0 t) cs) (λ e. let lt = ltb-true c.to t (and_parts (nat_le 0 c.to) (nat_lt c.to t) e).1 in omega arith) (over_by t cs)

module _ (known : ℕ → Bool) (c : Settings) (t end : ℕ) (before rows : List Row) (first : AreOrdered 0 t before) (order : AreOrdered t end rows) where
  -- the cycles that end among the rows before tenth t are over by then
  cycles_over : (p : ℕ) → Each (λ x. x.to ≤ t) (cycles_of known c p [] before)
  cycles_over p =
      let none : AreOrdered 0 0 [] = omega arith in
      let last : AreOrdered t t [] = omega arith in
      let all : filter (cycle_is_in 0 t) (cycles_from known c.phases [] (before ++ [])) ≡ cycles_from known c.phases [] before = cycles_count known c.phases 0 t t [] before [] none first last in
      each_filter (λ (x : Cycle). x.to ≤ t) (λ x. eqb x.phase p) (cycles_from known c.phases [] before)
      (subst (λ (zs : List Cycle). Each (λ x. x.to ≤ t) zs) all (over_by t (cycles_from known c.phases [] (before ++ []))))

  cycles_join : (p : ℕ) → cycles_of known c p [] (before ++ rows) ≡ cycles_of known c p [] before ++ cycles_of known c p before rows
  cycles_join p = ap (λ (zs : List Cycle). own (λ x. x.phase) p zs) (cycles_add known c.phases t end before rows first order) ∙ filter-append (λ (x : Cycle). eqb x.phase p) (cycles_from known c.phases [] before) (cycles_from known c.phases before rows)

  approach_join : (a : Approach) (advance : Option ℕ) → both (cycle_numbers known c [] before a advance) (cycle_numbers known c before rows a advance) ≡ cycle_numbers known c [] (before ++ rows) a advance
  approach_join a None = none_twice
  approach_join a (Some d) =
      let p = a.phase in
      let v = a.travel in
      let first_told = told known p d v before in
      let all = told known p d v (before ++ rows) in
      let cs = cycles_of known c p [] before in
      let ds = cycles_of known c p before rows in
      ap (λ (n : CycleNumbers). both n (numbers_of p d all ds)) (sym (numbers_cut t all first_told (told_cut known p d v t end before rows order) p d cs (cycles_over p)))
      ∙ (sym (numbers_join p d all cs ds)
      ∙ ap (λ zs. numbers_of p d all zs) (sym (cycles_join p)))

  merged_parts : (xs ys : List ArrivalSum) → map cycle_part (merged added xs ys) ≡ merged both (map cycle_part xs) (map cycle_part ys)
  merged_parts [] ys = refl
  merged_parts (x ∷ xs) [] = refl
  merged_parts (x ∷ xs) (y ∷ ys) = ap (λ zs. cycle_part (added x y) ∷ zs) (merged_parts xs ys)

  merged_approaches : (xs : List Approach) → merged both (map (λ a. cycle_numbers known c [] before a a.advance) xs) (map (λ a. cycle_numbers known c before rows a a.advance) xs) ≡ map (λ a. cycle_numbers known c [] (before ++ rows) a a.advance) xs
  merged_approaches [] = refl
  merged_approaches (x ∷ xs) = ap₂ (λ y ys. y ∷ ys) (approach_join x x.advance) (merged_approaches xs)

  -- the sums of both parts are those of the whole
  pub cycles_total : (ts ps : List ArrivalSum) → HaveCycles known c [] before ts → HaveCycles known c before rows ps → HaveCycles known c [] (before ++ rows) (merged added ts ps)
  cycles_total ts ps e f = merged_parts ts ps ∙ (ap₂ (λ us vs. merged both us vs) e f ∙ merged_approaches c.approaches)
