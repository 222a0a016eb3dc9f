-- What an hour gives of an approach.
use Rattle.std.proofs.Common.{◌≡◌, ℕ, ◌+◌, ◌^◌, ◌<◌, ◌≤◌, Bool, true, eqb, leb, List, ◌++◌, Option, Some, None, map, refl, ap, sym, ◌∙◌, arith}
use Rattle.std.specs.Prelude.{All, IfSome}
use Rattle.std.proofs.lemmas.Bool.{and_parts, eqb-true}
use Rattle.std.proofs.lemmas.List.Elements.{All-filter}
use Rattle.sig_base.specs.declared.values.Row.{Row}
use Rattle.hour_sweep.specs.Rows.{known_rows}
use Rattle.hour_sweep.specs.Hours.{AreOrdered}
use Rattle.service_cut.specs.declared.items.OpenCycle.{OpenCycle}
use Rattle.ring_config.specs.Settings.{Settings}
use Rattle.arrival_measures.specs.declared.open.Open.{Open}
use Rattle.arrival_measures.specs.Arrivals.{is_on, ons_of}
use Rattle.arrival_measures.proofs.Own.{filter_less}
use Rattle.arrival_measures.specs.Crossing.{has_detector, open_since}
use Rattle.arrival_measures.specs.Faults.{arrivals_from}
use Rattle.arrival_measures.specs.Travel.{arrivals_at, from_tenth, told}
use Rattle.arrival_measures.specs.Steps.{IsCycleOf, IsOpenUnderWay, moved, of_approaches, row_on}
use Rattle.arrival_measures.proofs.Telling.{early, late, late_is, open_told, own, under_way}
use Rattle.arrival_measures.proofs.Travels.{AllOn, at_on, kept_ordered, moved_are, passing_ordered, rows_are}

-- those of a detector of an approach

of_detector : (c : Settings) (d : ℕ) (x : Row) → has_detector c d ≡ true → is_on d x ≡ true → has_detector c x.param ≡ true
of_detector c d x has e = let same = eqb-true x.param d (and_parts (eqb x.code 82) (eqb x.param d) e).1 in ap (λ n. has_detector c n) same ∙ has

pub ons_kept : (c : Settings) (d : ℕ) (rows : List Row) → has_detector c d ≡ true → ons_of d (of_approaches c rows) ≡ ons_of d rows
ons_kept c d rows has = filter_less (is_on d) (λ x. has_detector c x.param) (λ x e. of_detector c d x has e) rows

-- the arrivals as the code makes them
pub arriving_is : (known : ℕ → Bool) (c : Settings) (p d v t : ℕ) (before rows : List Row) (first : AreOrdered 0 t before) (ordered : AreOrdered t (t + 36000) rows) (travel : v ≤ 300) (pending : List ℕ) (ons arriving : List Row) → t + 36300 < 2 ^ 32 → has_detector c d ≡ true
    → pending ≡ map (λ (x : Row). x.at) (from_tenth t (arrivals_at known d v before)) → ons ≡ ons_of d (of_approaches c (arrivals_from known before (known_rows known rows))) → arriving ≡ map (row_on d) pending ++ map (moved v) ons → arriving ≡ late known p d v t before rows first ordered travel
arriving_is known c p d v t before rows first ordered travel pending ons arriving high has ep eo e =
    let old = from_tenth t (arrivals_at known d v before) in
    let old_on : AllOn d old = All-filter (λ x. leb t x.at) (λ x. is_on d x ≡ true) (arrivals_at known d v before) (at_on known d v before) in
    let seen = known_rows known rows in
    let seen_ordered = kept_ordered (λ x. known x.at) t (t + 36000) t rows (omega arith) ordered in
    let in_hour = arrivals_from known before seen in
    let hour_ordered = kept_ordered (is_on d) t (t + 36000) t in_hour (omega arith) (passing_ordered _ before t (t + 36000) t seen (omega arith) seen_ordered) in
    e
    ∙ ap (λ ts. map (row_on d) ts ++ map (moved v) ons) ep
    ∙ ap (λ zs. zs ++ map (moved v) ons) (rows_are d old old_on)
    ∙ ap (λ zs. old ++ map (moved v) zs) (eo ∙ ons_kept c d in_hour has)
    ∙ ap (λ zs. old ++ zs) (moved_are v t (t + 36000) (ons_of d in_hour) hour_ordered (omega arith))
    ∙ sym (late_is known p d v t before rows first ordered travel)

-- the cycle that has begun at the hour's end

module _ (known : ℕ → Bool) (p d v t : ℕ) (before rows : List Row) (first : AreOrdered 0 t before) (ordered : AreOrdered t (t + 36000) rows) (travel : v ≤ 300) where
  pub open_under_way : (begun : Option Open) (to : ℕ) (o : Option OpenCycle) → All (λ x. x.at < t) before → IfSome o (λ y. IsCycleOf known p d t (told known p d v before) begun y.from to) → IsOpenUnderWay known p d (early known p d v t before rows first ordered travel) (own known p d v t before rows first ordered travel) t (t + 36300) begun to o
  open_under_way begun to None low h = tt
  open_under_way begun to (Some y) low h = under_way known p d v t before rows first ordered travel begun y.from to low h

  pub open_given : (begun : Option Open) (to : ℕ) (o : Option OpenCycle) → IfSome o (λ y. IsCycleOf known p d t (told known p d v before) begun y.from to) → open_since p d to (early known p d v t before rows first ordered travel ++ known_rows known (own known p d v t before rows first ordered travel)) o ≡ open_since p d to (told known p d v (before ++ known_rows known rows)) o
  open_given begun to None h = refl
  open_given begun to (Some y) h = ap (λ z. Some z) (open_told known p d v t before rows first ordered travel y.from to h.order h.all_known)
