-- What is measured of an hour of a store.
use Rattle.std.proofs.Common.{◌≡◌, ◌∙◌, ◌↔◌, ℕ, zero, suc, ◌+◌, ◌*◌, ◌<◌, ℤ, Bool, List, [], ◌∷◌, ◌++◌, length, get_or, take, Option, None, sym, ap, subst, arith}
use Rattle.std.specs.Prelude.{is_some}
use Rattle.std.proofs.lemmas.List.{append-nil, append_assoc}
use Rattle.std.proofs.lemmas.List.Elements.{filter-append}
use Rattle.colour_machine.specs.Rules.{Rules}
use Rattle.reach.specs.Runs.{State}
use Rattle.span_set.specs.declared.set.Span.{Span}
use Rattle.sig_base.specs.HourRows.{AreRowsOf, Shown}
use Rattle.sig_base.specs.declared.values.Row.{Row}
use Rattle.gap_map.specs.declared.stretch.Stretch.{Stretch}
use Rattle.gap_map.specs.Stretches.{IsCut, known_in}
use Rattle.hour_store.specs.Store.{Store, is_known, rows_at, rows_of}
use Rattle.hour_sweep.specs.Rows.{known_rows}
use Rattle.hour_sweep.specs.Hours.{IsHour}
use Rattle.signal_log.specs.Points.{HasHour, rows_or_none}
use Rattle.signal_log.specs.Views.{AreSameOrAlike}
use Rattle.signal_log.proofs.Stored.{cut_known, rows_in, rows_in_is, rows_of_first}
use Rattle.detector_state.specs.declared.state_asked.Asked.{Asked}
use Rattle.detector_state.specs.declared.state_asked.Asked.TheVariants.{Colour, NoneOf}
use Rattle.detector_state.specs.States.{AllHave, Meets}
use Rattle.hour_work.specs.Rows.{earlier_rows, own_rows}
use Rattle.signal_log.specs.Rows.{hour_rows}

-- ---- rows

rows_more : (hours : List (Option Shown)) (k : ℕ) → k < length hours → rows_of (take (suc k) hours) ≡ rows_of (take k hours) ++ rows_in (get_or hours k None)
rows_more [] k lt = absurd (omega arith)
rows_more (o ∷ hours) zero lt = rows_of_first o [] ∙ append-nil (rows_in o)
rows_more (o ∷ hours) (suc k) lt =
    rows_of_first o (take (suc k) hours)
    ∙ (ap (λ rs. rows_in o ++ rs) (rows_more hours k (omega arith))
    ∙ (sym (append_assoc (rows_in o) (rows_of (take k hours)) (rows_in (get_or hours k None)))
    ∙ ap (λ rs. rs ++ rows_in (get_or hours k None)) (sym (rows_of_first o (take k hours)))))

-- the known rows before the next hour are those before this one, and its own
pub earlier_more : (s : Store) (hour : ℕ) → hour < length s.hours → earlier_rows s (hour + 1) ≡ earlier_rows s hour ++ own_rows s hour
earlier_more s hour lt =
    let next : hour + 1 ≡ suc hour = omega arith in
    ap (λ k. earlier_rows s k) next
    ∙ (ap (λ rs. known_rows (is_known s) rs) (rows_more s.hours hour lt ∙ ap (λ rs. rows_of (take hour s.hours) ++ rs) (rows_in_is (get_or s.hours hour None)))
    ∙ filter-append (λ (x : Row). is_known s x.at) (rows_of (take hour s.hours)) (hour_rows s hour))

pub own_known : (s : Store) (hour : ℕ) (rows : Option (List Row)) → rows_at s hour ≡ rows → known_rows (is_known s) (rows_or_none rows) ≡ own_rows s hour
own_known s hour rows e = ap (λ (o : Option (List Row)). known_rows (is_known s) (rows_or_none o)) (sym e)

-- the hour's rows and stretches
pub hour_is : (s : Store) (hour : ℕ) (rows : Option (List Row)) (blanks : List Span) (ss : List Stretch) → HasHour s hour rows blanks → AreRowsOf hour (rows_or_none rows) → IsCut (known_in (is_some rows) blanks) (36000 * hour) (36000 * hour + 36000) ss → IsHour (is_known s) hour (rows_or_none rows) ss
hour_is s hour rows blanks ss has are cut = record {
  are_rows = are;
  are_stretches = (cut_known s hour rows blanks ss has cut).stretches;
}

-- ---- states

all_as : (m : Rules) (p : ℤ) (P Q : State → Type 0) → AreSameOrAlike m p P Q → (c : ℕ) → AllHave P c → AllHave Q c
all_as m p P Q same c h w q = let (v, is, alike) = same.back w q in sym alike.1 ∙ h v is

all_back : (m : Rules) (p : ℤ) (P Q : State → Type 0) → AreSameOrAlike m p P Q → (c : ℕ) → AllHave Q c → AllHave P c
all_back m p P Q same c h v is = let (w, q, alike) = same.to v is in sym alike.1 ∙ h w q

pub meets_as : (m : Rules) (p : ℤ) (P Q : State → Type 0) → AreSameOrAlike m p P Q → (asked : Asked) → Meets asked P ↔ Meets asked Q
meets_as m p P Q same (Colour c) = (all_as m p P Q same c, all_back m p P Q same c)
meets_as m p P Q same (NoneOf n) = (λ h c lt all. h c lt (all_back m p P Q same c all), λ h c lt all. h c lt (all_as m p P Q same c all))

-- ---- points

-- what is carried over an hour is what the store says at the next point
pub over_hour : {X : Type 0} (Is : (ℕ → Bool) → List Row → ℕ → X → Type 0) (s : Store) (hour : ℕ) (rows : Option (List Row)) (blanks : List Span) (ss : List Stretch) (old first new : X) → old ≡ first → HasHour s hour rows blanks → AreRowsOf hour (rows_or_none rows) → IsCut (known_in (is_some rows) blanks) (36000 * hour) (36000 * hour + 36000) ss
    → ((known : ℕ → Bool) (before : List Row) (h : ℕ) → IsHour known h (rows_or_none rows) ss → Is known before h old → Is known (before ++ known_rows known (rows_or_none rows)) (h + 1) new)
    → Is (is_known s) (earlier_rows s hour) hour first → Is (is_known s) (earlier_rows s (hour + 1)) (hour + 1) new
over_hour Is s hour rows blanks ss old first new e has are cut law is =
    let step = law (is_known s) (earlier_rows s hour) hour (hour_is s hour rows blanks ss has are cut) (subst (λ x. Is (is_known s) (earlier_rows s hour) hour x) (sym e) is) in
    let same : earlier_rows s hour ++ known_rows (is_known s) (rows_or_none rows) ≡ earlier_rows s (hour + 1) = ap (λ rs. earlier_rows s hour ++ rs) (own_known s hour rows has.held) ∙ sym (earlier_more s hour has.within) in
    subst (λ rs. Is (is_known s) rs (hour + 1) new) same step
