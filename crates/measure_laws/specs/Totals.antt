-- The totals over the hours of a report are the numbers of the whole log.
use Rattle.std.specs.Prelude.{ℕ, ◌≡◌, ◌++◌, ◌<◌, not, List, [], Option, Some, None, filter, length}
use Rattle.sig_base.specs.declared.values.Row.{Row}
use Rattle.hour_store.specs.Store.{IsStore, Store, is_known, known_rows}
use Rattle.signal_log.specs.Log.{HasHistory, Log, log_of, window_end}
use Rattle.ring_config.specs.Settings.{Settings}
use Rattle.ring_config.specs.declared.items.Approach.{Approach}
use Rattle.stop_bar.specs.Windows.{due, left}
use Rattle.stop_bar.specs.declared.bars.StopBar.{StopBar}
use Rattle.stop_bar.specs.All.{IsPlaceOf, bar_with}
use Rattle.stop_bar.specs.Bars.{services_upto}
use Rattle.stop_bar.specs.Lists.{Each}
use Rattle.split_measures.specs.declared.failures.SplitSum.{SplitSum}
use Rattle.split_measures.specs.declared.verdict.SplitVerdict.{SplitVerdict}
use Rattle.split_measures.specs.Failures.{split_sum_of}
use Rattle.split_measures.specs.Hours.{opens_of}
use Rattle.split_measures.specs.Verdicts.{IsVerdict}
use Rattle.arrival_measures.specs.Arrivals.{ons_of}
use Rattle.arrival_measures.specs.declared.sums.ArrivalSum.{ArrivalSum}
use Rattle.arrival_measures.specs.Faults.{faults_from}
use Rattle.arrival_measures.specs.Travel.{arrivals_at}
use Rattle.arrival_measures.specs.Judged.{AreJudged, is_green}
use Rattle.arrival_measures.specs.Hours.{HasActuations, no_arrivals}
use Rattle.rule_audit.specs.declared.lines.AuditLine.{AuditLine}
use Rattle.rule_audit.specs.Rules.{rules_for}
use Rattle.hour_work.specs.Counts.{counts_of}
use Rattle.hour_work.specs.Numbers.{Numbers, total_of}
use Rattle.hour_work.specs.Measures.{MayBeIn, over_hours}
use Rattle.hour_work.specs.Reports.{IsReport}
use Rattle.hour_work.specs.Verdicts.{AreAuditLines}

-- ---- services at stop bars

-- the sum over all services of a log at a stop bar, whose detector has place i: each service whose red window is over by the window's end has, in order, the verdict that all histories tell, and the others are open
pub record IsSplitTotal (log : Log) (c : Settings) (i : ℕ) (b : StopBar) (sum : SplitSum) : Type 0 where
  pub verdicts : List SplitVerdict
  pub each : Each (λ s v. IsVerdict log i b.high s v) (due (window_end log) (services_upto log.known c.phases b.phase log.rows)) verdicts
  pub sums : sum ≡ split_sum_of (verdicts ++ opens_of (left (window_end log) (services_upto log.known c.phases b.phase log.rows)))

-- the sum of an approach: of its stop bar, where it has one
abbrev pub IsApproachTotal : Log → Settings → SplitSum → Option StopBar → Type 0
IsApproachTotal log c sum None = sum ≡ split_sum_of []
IsApproachTotal log c sum (Some b) = (i : ℕ) × IsPlaceOf c b i × IsSplitTotal log c i b sum

-- the totals of the approaches, in file order, are those of all services of the log
abbrev pub SplitTotals : Type 0
SplitTotals = (c : Settings) (s : Store) (all : List Numbers) → IsStore s → length s.hours ≡ c.window.hours → IsReport c s all → Each (λ a sum. IsApproachTotal (log_of c.specs s) c sum (bar_with a a.stop_bar)) c.approaches (total_of all).failures

-- ---- arrivals

-- the numbers of these arrivals, each at its arrival tenth: where the tenth is known the arrival is judged by whether the phase is green at its end, and else it is unseen; and of these fault rows
pub record AreNumbersOf (c : Settings) (s : Store) (a : Approach) (ons faults : List Row) (sum : ArrivalSum) : Type 0 where
  pub arrivals : sum.arrivals ≡ length ons
  pub judged : AreJudged (MayBeIn c s) c a.phase is_green (filter (λ x. is_known s x.at) ons) sum.green sum.not_green sum.undecided
  pub unseen : sum.unseen ≡ length (filter (λ x. not (is_known s x.at)) ons)
  pub fault : sum.fault ≡ length faults

-- those of all arrivals and fault rows of the store at the advance detector, where there is one
abbrev pub HaveTotals : Settings → Store → Approach → ArrivalSum → Option ℕ → Type 0
HaveTotals c s a sum None = no_arrivals sum
HaveTotals c s a sum (Some d) = AreNumbersOf c s a (arrivals_at (is_known s) d a.travel (known_rows s)) (ons_of d (faults_from (is_known s) [] (known_rows s))) sum

-- the numbers of an approach over the whole store: its arrivals, and the actuations of its stop bar detector
pub record AreTotalsOf (c : Settings) (s : Store) (a : Approach) (sum : ArrivalSum) : Type 0 where
  pub arrivals : HaveTotals c s a sum a.advance
  pub actuations : HasActuations (MayBeIn c s) (is_known s) c a [] (known_rows s) sum a.stop_bar

-- the totals of the approaches, in file order, are those of the whole store
abbrev pub ArrivalTotals : Type 0
ArrivalTotals = (c : Settings) (s : Store) (all : List Numbers) → IsStore s → length s.hours ≡ c.window.hours → IsReport c s all → Each (AreTotalsOf c s) c.approaches (total_of all).arrivals

-- ---- rules

-- these are the audit lines of each hour of the store
abbrev pub AreHoursLines : Settings → Store → (ℕ → List AuditLine) → Type 0
AreHoursLines c s lines = (hour : ℕ) → hour < length s.hours → AreAuditLines c s hour (lines hour)

-- the totals of the rules, by their numbers, are the counts of the audit lines of all hours, one hour after another
abbrev pub RuleTotals : Type 0
RuleTotals = (c : Settings) (s : Store) (all : List Numbers) (lines : ℕ → List AuditLine) → IsStore s → HasHistory (log_of c.specs s) → IsReport c s all → AreHoursLines c s lines → (total_of all).rules ≡ counts_of (length (rules_for c)) (over_hours lines (length s.hours))
