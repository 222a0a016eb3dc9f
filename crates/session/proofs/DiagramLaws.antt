-- The cycles and arrivals of a phase, hour by hour, make up its diagrams in the whole log.
use Rattle.std.proofs.Common.{◌≡◌, ◌∙◌, ℕ, suc, ◌+◌, List, [], ◌++◌, map, length, sym, ap, arith}
use Rattle.hour_store.specs.Store.{Store, is_known, known_rows}
use Rattle.ring_config.specs.Settings.{Settings}
use Rattle.hour_sweep.specs.Sums.{own}
use Rattle.hour_sweep.proofs.SumPlaces.{own-append}
use Rattle.service_cut.specs.declared.items.Cycle.{Cycle}
use Rattle.service_cut.specs.Cut.{cycles_from}
use Rattle.arrival_measures.specs.declared.points.Point.{Point}
use Rattle.arrival_measures.specs.declared.points.Diagram.{Diagram}
use Rattle.arrival_measures.specs.Points.{diagram_of, diagrams_of, points_from}
use Rattle.hour_work.specs.Rows.{earlier_rows, own_rows}
use Rattle.hour_work.specs.Measures.{cycles_in, over_hours}

-- ---- one hour more

over_next : {X : Type 0} (of : ℕ → List X) (n : ℕ) → over_hours of (n + 1) ≡ over_hours of n ++ of n
over_next of n = let e : n + 1 ≡ suc n = omega arith in ap (λ k. over_hours of k) e

abbrev phase_of : Cycle → ℕ
phase_of x = x.phase

pub cycles_more : (c : Settings) (s : Store) (p n : ℕ) (old new : List Cycle) → old ≡ own phase_of p (over_hours (cycles_in c s) n) → new ≡ old ++ own phase_of p (cycles_in c s n) → new ≡ own phase_of p (over_hours (cycles_in c s) (n + 1))
cycles_more c s p n old new e more =
    more
    ∙ (ap (λ xs. xs ++ own phase_of p (cycles_in c s n)) e
    ∙ (sym (own-append phase_of p (over_hours (cycles_in c s) n) (cycles_in c s n))
    ∙ ap (λ xs. own phase_of p xs) (sym (over_next (cycles_in c s) n))))

pub points_more : (c : Settings) (s : Store) (p n : ℕ) (old new : List Point) → old ≡ over_hours (λ hour. points_from (is_known s) c p (earlier_rows s hour) (own_rows s hour)) n → new ≡ old ++ points_from (is_known s) c p (earlier_rows s n) (own_rows s n) → new ≡ over_hours (λ hour. points_from (is_known s) c p (earlier_rows s hour) (own_rows s hour)) (n + 1)
points_more c s p n old new e more =
    let of : ℕ → List Point = λ hour. points_from (is_known s) c p (earlier_rows s hour) (own_rows s hour) in
    more ∙ (ap (λ xs. xs ++ of n) e ∙ sym (over_next of n))

-- ---- the diagrams

pub diagrams_whole : (c : Settings) (s : Store) (p n : ℕ) (cycles : List Cycle) (points : List Point) (ds : List Diagram) → n ≡ length s.hours → over_hours (cycles_in c s) (length s.hours) ≡ cycles_from (is_known s) c.phases [] (known_rows s) → over_hours (λ hour. points_from (is_known s) c p (earlier_rows s hour) (own_rows s hour)) (length s.hours) ≡ points_from (is_known s) c p [] (known_rows s)
    → cycles ≡ own phase_of p (over_hours (cycles_in c s) n) → points ≡ over_hours (λ hour. points_from (is_known s) c p (earlier_rows s hour) (own_rows s hour)) n → ds ≡ map (diagram_of points) cycles → ds ≡ diagrams_of (is_known s) c p (known_rows s)
diagrams_whole c s p n cycles points ds end all_cycles all_points ec ep ed =
    let of_log = points_from (is_known s) c p [] (known_rows s) in
    let points_are : points ≡ of_log = ep ∙ (ap (λ k. over_hours (λ hour. points_from (is_known s) c p (earlier_rows s hour) (own_rows s hour)) k) end ∙ all_points) in
    let cycles_are : cycles ≡ own phase_of p (cycles_from (is_known s) c.phases [] (known_rows s)) = ec ∙ ap (λ (cs : List Cycle). own phase_of p cs) (ap (λ k. over_hours (cycles_in c s) k) end ∙ all_cycles) in
    ed ∙ (ap (λ (xs : List Point). map (diagram_of xs) cycles) points_are ∙ ap (λ (cs : List Cycle). map (diagram_of of_log) cs) cycles_are)
