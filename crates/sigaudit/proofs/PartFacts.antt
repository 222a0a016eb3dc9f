-- The numbers of a session's report are those of its hours and of its window.
use Rattle.std.proofs.Common.{◌≡◌, ◌∙◌, ◌<◌, ◌≤◌, ℕ, List, length, Some, None, inl, inr, sym, subst, arith}
use Rattle.std.specs.List.{slice_get}
use Rattle.std.proofs.lemmas.Option.{get_or_from_slice_get, slice_get_cases, slice_get_within}
use Rattle.hour_store.specs.Store.{IsStore, Store}
use Rattle.ring_config.specs.Settings.{Settings}
use Rattle.signal_log.specs.Log.{HasHistory, log_of}
use Rattle.hour_work.specs.Numbers.{Numbers, total_of}
use Rattle.hour_work.specs.Reports.{IsReport}
use Rattle.measure_laws.specs.Plain.{IsHourOf, IsWindowOf}
use Rattle.measure_laws.proofs.Plain.{sums_plain}

-- what a session says of its report: some history agrees with its store, which has all hours of the window
pub record IsTold (c : Settings) (s : Store) (all : List Numbers) : Type 0 where
  pub history : HasHistory (log_of c.specs s)
  pub store : IsStore s
  pub hours : length s.hours ≡ c.window.hours
  pub report : IsReport c s all

pub window_told : (c : Settings) (s : Store) (all : List Numbers) → IsTold c s all → IsWindowOf c s (total_of all)
window_told c s all told = (sums_plain c s all told.store told.hours told.report).1

pub hour_within : (c : Settings) (s : Store) (all : List Numbers) (hour : ℕ) (x : Numbers) → IsTold c s all → Some x ≡ slice_get all hour → hour < c.window.hours
hour_within c s all hour x told e =
    let lt : hour < length all = slice_get_within all hour x (sym e) in
    let size = told.report.size in
    let hours = told.hours in
    omega arith

pub hour_told : (c : Settings) (s : Store) (all : List Numbers) (hour : ℕ) (x : Numbers) → IsTold c s all → Some x ≡ slice_get all hour → IsHourOf c s hour x
hour_told c s all hour x told e =
    let lt = hour_within c s all hour x told e in
    let hours = told.hours in
    subst (λ (n : Numbers). IsHourOf c s hour n) (get_or_from_slice_get all hour x x (sym e)) ((sums_plain c s all told.store told.hours told.report).0 hour x (omega arith))

-- an hour that the report hasn't is past the window
pub hour_past : (c : Settings) (s : Store) (all : List Numbers) (hour : ℕ) → IsTold c s all → None ≡ slice_get all hour → c.window.hours ≤ hour
hour_past c s all hour told e =
    let size = told.report.size in
    let hours = told.hours in
    elim (slice_get_cases all hour).1 [
      | inl (x, lt, there, same) ↦ absurd (let none = e ∙ there in cc)
      | inr (past, none) ↦ omega arith
    ]
