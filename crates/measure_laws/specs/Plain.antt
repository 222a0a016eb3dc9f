-- The numbers of a part of a log, of some hours or of its whole window: each is a count, a sum, a least or a greatest of what the part has.
use Rattle.std.specs.Prelude.{ℕ, zero, suc, ◌≡◌, ◌<◌, ◌+◌, ◌-◌, ◌*◌, ◌++◌, ◌==◌, ◌&&◌, ◌||◌, if◌then◌else◌, Bool, true, false, not, List, [], Option, is_some, nat_le, nat_lt, take, drop, map, filter, length, sum, sum_by, count_by, slice_index_or, filter_map, min, max}
use Rattle.sig_base.specs.declared.values.Row.{Row}
use Rattle.sig_base.specs.Numbers.{has_number, has_phase}
use Rattle.board.specs.Logs.{first_tenth}
use Rattle.hour_store.specs.Store.{IsStore, Store, count_in, is_known, known_rows}
use Rattle.signal_log.specs.Log.{HasHistory, Log, log_of}
use Rattle.ring_config.specs.Settings.{Settings}
use Rattle.ring_config.specs.declared.items.Approach.{Approach}
use Rattle.service_cut.specs.declared.items.Cycle.{Cycle}
use Rattle.service_cut.specs.declared.items.Service.{Service}
use Rattle.service_cut.specs.declared.items.Termination.TheVariants.{ForceOff, GapOut, MaxOut, Unlogged}
use Rattle.service_cut.specs.Cut.{cycles_from, services_from}
use Rattle.hour_sweep.specs.Sums.{own}
use Rattle.rule_audit.specs.declared.lines.AuditLine.{AuditLine}
use Rattle.rule_audit.specs.Rules.{rules_for}
use Rattle.stop_bar.specs.Windows.{left}
use Rattle.stop_bar.specs.declared.bars.StopBar.{StopBar}
use Rattle.stop_bar.specs.All.{IsPlaceOf, bar_with}
use Rattle.stop_bar.specs.Bars.{ending, services_upto}
use Rattle.split_measures.specs.declared.failures.SplitSum.{SplitSum}
use Rattle.split_measures.specs.declared.sums.PhaseSum.{PhaseSum}
use Rattle.split_measures.specs.declared.verdict.SplitVerdict.{SplitVerdict}
use Rattle.split_measures.specs.declared.verdict.SplitVerdict.TheVariants.{Fail, Pass, Undecided, Fault}
use Rattle.split_measures.specs.Phases.{split}
use Rattle.split_measures.specs.Verdicts.{IsVerdict}
use Rattle.other_measures.specs.declared.sums.CoordSum.{CoordSum}
use Rattle.other_measures.specs.declared.sums.PedSum.{PedSum}
use Rattle.other_measures.specs.declared.sums.PreemptSum.{PreemptSum}
use Rattle.other_measures.specs.Hours.{delays_from, events_from, no_coordination}
use Rattle.other_measures.specs.States.{EachOf}
use Rattle.other_measures.specs.Sums.{ran, delay_in, dwell_in, is_entry_event, is_late_entry, is_late_exit, is_not_begun, is_partial}
use Rattle.arrival_measures.specs.Arrivals.{ons_of}
use Rattle.arrival_measures.specs.Green.{arrivals_in, green_arrivals_in, green_tenths_in, tenths_with}
use Rattle.arrival_measures.specs.declared.sums.ArrivalSum.{ArrivalSum}
use Rattle.arrival_measures.specs.Faults.{arrivals_from, faults_from}
use Rattle.arrival_measures.specs.Hours.{cycles_of, no_actuations, no_arrivals}
use Rattle.arrival_measures.specs.Judged.{AreJudged, is_green, is_red, CountOf}
use Rattle.arrival_measures.specs.Travel.{arrivals_at, told}
use Rattle.hour_work.specs.Measures.{MeetsIn}
use Rattle.hour_work.specs.Numbers.{Numbers, total_of}
use Rattle.hour_work.specs.Reports.{IsReport}
use Rattle.hour_work.specs.Verdicts.{AreAuditLines}
use Rattle.hour_work.specs.Counts.{counts_of}
use Rattle.hour_work.specs.Rows.{earlier_rows, own_rows}
use Rattle.measure_laws.specs.States.{AreStatesBetween}
use Rattle.std.specs.Option.{MatchOption}
use Rattle.std.specs.List.{AllZip, reduce}
use Rattle.signal_log.specs.States.{MayBeAtEndOf}

-- ---- phases

-- the numbers of phase p: how many of these services and of these cycles are its own, how many of the services ended in each way, their least and greatest split, and the sums of their splits and of the tenths of the cycles
pub record IsPlainPhase (ss : List Service) (cs : List Cycle) (p : ℕ) (n : PhaseSum) : Type 0 where
  pub services : n.services ≡ length (own (λ s. s.phase) p ss)
  pub least : n.least ≡ reduce min (map split (own (λ s. s.phase) p ss))
  pub greatest : n.greatest ≡ reduce max (map split (own (λ s. s.phase) p ss))
  pub sum : n.sum ≡ sum_by split (own (λ s. s.phase) p ss)
  pub gap_out : CountOf (λ s. s.end ≡ GapOut) (own (λ s. s.phase) p ss) n.gap_out
  pub max_out : CountOf (λ s. s.end ≡ MaxOut) (own (λ s. s.phase) p ss) n.max_out
  pub force_off : CountOf (λ s. s.end ≡ ForceOff) (own (λ s. s.phase) p ss) n.force_off
  pub unlogged : CountOf (λ s. s.end ≡ Unlogged) (own (λ s. s.phase) p ss) n.unlogged
  pub cycles : n.cycles ≡ length (own (λ x. x.phase) p cs)
  pub cycle_sum : n.cycle_sum ≡ sum_by (λ x. x.to - x.from) (own (λ x. x.phase) p cs)

-- ---- pedestrian signals, preempts and the coordination

-- the numbers of pedestrian signal p: how many delays among these rows are its own, how many of them are whole, the sum and the greatest of those, how many have no call since the last begin of walk, and how many no known begin of walk before theirs
pub record IsPlainPed (known : ℕ → Bool) (c : Settings) (before rows : List Row) (p : ℕ) (n : PedSum) : Type 0 where
  pub walks : n.walks ≡ length (own (λ d. d.ped) p (delays_from known c before rows))
  pub delays : n.delays ≡ length (filter_map (λ d. ran d.wait) (own (λ d. d.ped) p (delays_from known c before rows)))
  pub sum : n.sum ≡ sum (filter_map (λ d. ran d.wait) (own (λ d. d.ped) p (delays_from known c before rows)))
  pub greatest : n.greatest ≡ reduce max (filter_map (λ d. ran d.wait) (own (λ d. d.ped) p (delays_from known c before rows)))
  pub uncalled : n.uncalled ≡ count_by (λ d. is_not_begun d.wait) (own (λ d. d.ped) p (delays_from known c before rows))
  pub partial : n.partial ≡ count_by (λ d. is_partial d.wait) (own (λ d. d.ped) p (delays_from known c before rows))

-- the numbers of preempt p: how many entries it has among these rows, with how many delays that are known and their sum, and how many before which no call is known since the last entry, also where there was none; and the dwells of its exits likewise, of which those aren't known whose begin isn't
pub record IsPlainPreempt (known : ℕ → Bool) (c : Settings) (before rows : List Row) (p : ℕ) (n : PreemptSum) : Type 0 where
  pub entries : n.entries ≡ count_by (λ e. is_entry_event e.event) (own (λ e. e.preempt) p (events_from known c before rows))
  pub delays : n.delays ≡ length (filter_map (λ e. delay_in e.event) (own (λ e. e.preempt) p (events_from known c before rows)))
  pub partial : n.partial ≡ count_by (λ e. is_late_entry e.event) (own (λ e. e.preempt) p (events_from known c before rows))
  pub dwells : n.dwells ≡ length (filter_map (λ e. dwell_in e.event) (own (λ e. e.preempt) p (events_from known c before rows)))
  pub dwell_partial : n.dwell_partial ≡ count_by (λ e. is_late_exit e.event) (own (λ e. e.preempt) p (events_from known c before rows))
  pub dwell_sum : n.dwell_sum ≡ sum (filter_map (λ e. dwell_in e.event) (own (λ e. e.preempt) p (events_from known c before rows)))
  pub sum : n.sum ≡ sum (filter_map (λ e. delay_in e.event) (own (λ e. e.preempt) p (events_from known c before rows)))

-- the rows of the coordination: how many have each of its four codes
pub record HasPlainRows (rows : List Row) (n : CoordSum) : Type 0 where
  pub patterns : n.patterns ≡ count_by (λ x. x.code == 131) rows
  pub cycle_changes : n.cycle_changes ≡ count_by (λ x. x.code == 132) rows
  pub yields : n.yields ≡ count_by (λ x. x.code == 151) rows
  pub begins : n.begins ≡ count_by (λ x. x.code == 152) rows

-- ---- services at stop bars

-- the numbers at a stop bar, whose detector has place i: of the services that are judged there each has, in order, the verdict that all histories tell, and each verdict is counted; the others are open
pub record ArePlainVerdicts (log : Log) (i : ℕ) (b : StopBar) (judged waiting : List Service) (n : SplitSum) : Type 0 where
  pub verdicts : List SplitVerdict
  pub each : AllZip (IsVerdict log i b.high) judged verdicts
  pub fail : CountOf (λ v. v ≡ Fail) verdicts n.fail
  pub pass : CountOf (λ v. v ≡ Pass) verdicts n.pass
  pub undecided : CountOf (λ v. v ≡ Undecided) verdicts n.undecided
  pub fault : CountOf (λ v. v ≡ Fault) verdicts n.fault
  pub left_open : n.left_open ≡ length waiting

-- those of an approach: of its stop bar, where it has one, of all services of the bar's phase among these known rows those that are judged, and those that are left open; without one there are none
abbrev pub HavePlainVerdicts : Log → Settings → (List Service → List Service) → (List Service → List Service) → List Row → SplitSum → Option StopBar → Type 0
HavePlainVerdicts log c judged waiting rows n bar = MatchOption bar (n ≡ record { fail = 0; pass = 0; undecided = 0; left_open = 0; fault = 0 }) λ b. (i : ℕ) × IsPlaceOf c b i ×
    ArePlainVerdicts log i b (judged (services_upto log.known c.phases b.phase rows)) (waiting (services_upto log.known c.phases b.phase rows)) n

-- ---- arrivals and actuations

-- the numbers of these arrivals, each at its arrival tenth: how many there are, how many of those that are seen are on green in all histories, in none and only in some, and how many aren't seen; and how many fault rows there are
pub record ArePlainArrivals (c : Settings) (s : Store) (a : Approach) (seen : Row → Bool) (ons faults : List Row) (n : ArrivalSum) : Type 0 where
  pub arrivals : n.arrivals ≡ length ons
  pub judged : AreJudged (MayBeAtEndOf (log_of c.specs s)) c a.phase is_green (filter seen ons) n.green n.not_green n.undecided
  pub unseen : n.unseen ≡ length (filter (λ x. not (seen x)) ons)
  pub fault : n.fault ≡ length faults

-- the numbers of these actuations: how many there are, and how many are on red in all histories, in none and only in some; and how many fault rows there are
pub record ArePlainActuations (c : Settings) (s : Store) (a : Approach) (ons faults : List Row) (n : ArrivalSum) : Type 0 where
  pub actuations : n.actuations ≡ length ons
  pub judged : AreJudged (MayBeAtEndOf (log_of c.specs s)) c a.phase is_red ons n.red n.not_red n.red_undecided
  pub fault : n.red_fault ≡ length faults

-- ---- whole cycles of approaches

-- the numbers of these cycles of phase p: the sums of the arrivals at detector d in each, of those of them on green, of its green tenths and of its tenths
pub record ArePlainCycles (p d : ℕ) (rows : List Row) (cs : List Cycle) (n : ArrivalSum) : Type 0 where
  pub arrivals : n.cycle_arrivals ≡ sum_by (λ x. arrivals_in d x.from x.to rows) cs
  pub green : n.cycle_green ≡ sum_by (λ x. green_arrivals_in p d x.from x.to rows) cs
  pub green_tenths : n.green_tenths ≡ sum_by (λ x. green_tenths_in p x.from x.to rows) cs
  pub tenths : n.cycle_tenths ≡ sum_by (λ x. x.to - x.from) cs

-- ---- a part of a log

-- the audit lines of so many hours from this one on, one hour after another
unfoldable pub AreLinesFrom : Settings → Store → ℕ → ℕ → List AuditLine → Type 0
AreLinesFrom c s hour zero lines = lines ≡ []
AreLinesFrom c s hour (suc n) lines = (own : List AuditLine) × (rest : List AuditLine) × AreAuditLines c s hour own × AreLinesFrom c s (hour + 1) n rest × (lines ≡ own ++ rest)

-- the numbers of an approach in the hours from `first` up to `last`, that one left out. At its advance detector: of the arrivals that come in one of these hours, or later where they end with the window, where what the phase shows can be asked of those at a known tenth before the hour `last`; and of its phase's whole cycles that end among the rows. At its stop bar detector: of its actuations. Without a detector there are none
pub record IsApproachPart (c : Settings) (s : Store) (first last : ℕ) (before rows : List Row) (a : Approach) (n : ArrivalSum) : Type 0 where
  pub arrivals : MatchOption a.advance (no_arrivals n) λ d. ArePlainArrivals c s a (λ x. is_known s x.at && nat_lt x.at (first_tenth last))
      (filter (λ x. nat_le (first_tenth first) x.at && (last == c.window.hours || nat_lt x.at (first_tenth last))) (arrivals_at (is_known s) d a.travel (before ++ rows)))
      (ons_of d (faults_from (is_known s) before rows)) n
  pub cycles : MatchOption a.advance ((n.cycle_arrivals ≡ 0) × (n.cycle_green ≡ 0) × (n.green_tenths ≡ 0) × (n.cycle_tenths ≡ 0)) λ d.
      ArePlainCycles a.phase d (told (is_known s) a.phase d a.travel (before ++ rows)) (cycles_of (is_known s) c a.phase before rows) n
  pub actuations : MatchOption a.stop_bar (no_actuations n) λ d.
      ArePlainActuations c s a (ons_of d (arrivals_from (is_known s) before rows)) (ons_of d (faults_from (is_known s) before rows)) n

-- the numbers of the hours from `first` up to `last`, that one left out, with these known rows, where the first rows stand before them: what is held and known, the counts of the rules by the audit lines, and by number or in file order those of phases, of pedestrian signals, preempts and the coordination with their tenths in states, of stop bars, where the services that are left open count where the hours end with the window, and of approaches
pub record IsPart (c : Settings) (s : Store) (first last : ℕ) (before rows : List Row) (n : Numbers) : Type 0 where
  pub held_hours : n.held_hours ≡ count_by is_some (take (last - first) (drop first s.hours))
  pub held_rows : n.held_rows ≡ sum_by count_in (take (last - first) (drop first s.hours))
  pub known_tenths : n.known_tenths ≡ tenths_with (is_known s) (first_tenth first) (36000 * (last - first))
  pub lines : List AuditLine
  pub are_lines : AreLinesFrom c s first (last - first) lines
  pub rules : n.rules ≡ counts_of (length (rules_for c)) lines
  pub phases : EachOf (has_phase c.phases) (IsPlainPhase (services_from (is_known s) c.phases before rows) (cycles_from (is_known s) c.phases before rows)) 17 n.splits
  pub peds : EachOf (has_number c.peds) (IsPlainPed (is_known s) c before rows) 17 n.others.peds
  pub preempts : EachOf (has_number c.preempts) (IsPlainPreempt (is_known s) c before rows) 17 n.others.preempts
  pub coordination : c.coordination ≡ true → HasPlainRows rows n.others.coordination
  pub off : c.coordination ≡ false → n.others.coordination ≡ no_coordination
  pub states : AreStatesBetween (MeetsIn c s) (first_tenth first) (first_tenth last) c n.others
  pub verdicts : AllZip (λ a x. HavePlainVerdicts (log_of c.specs s) c (ending (first_tenth first) (first_tenth last))
      (λ ss. if nat_le c.window.hours last then left (first_tenth last) ss else []) (before ++ rows) x (bar_with a a.stop_bar)) c.approaches n.failures
  pub approaches : AllZip (IsApproachPart c s first last before rows) c.approaches n.arrivals

-- the numbers of one hour. Each thing counts in the hour in which it ends: a service and a cycle at the end of yellow, a split at the end of its red window, an arrival at its arrival tenth, a row left out as a fault at the row's
abbrev pub IsHourOf : Settings → Store → ℕ → Numbers → Type 0
IsHourOf c s hour n = IsPart c s hour (hour + 1) (earlier_rows s hour) (own_rows s hour) n

-- the numbers of the whole window
abbrev pub IsWindowOf : Settings → Store → Numbers → Type 0
IsWindowOf c s n = IsPart c s 0 c.window.hours [] (known_rows s) n

-- each hour of a report has the numbers of that hour, and its totals are those of the whole window: no count and no sum stands at the last value of a u64
abbrev pub SumsArePlain : Type 0
SumsArePlain = (c : Settings) (s : Store) (all : List Numbers) → IsStore s → length s.hours ≡ c.window.hours → IsReport c s all → ((hour : ℕ) (d : Numbers) → hour < length s.hours → IsHourOf c s hour (slice_index_or all hour d)) × IsWindowOf c s (total_of all)

-- a part of a log has one value of its numbers
abbrev pub PartsAreOne : Type 0
PartsAreOne = (c : Settings) (s : Store) (first last : ℕ) (before rows : List Row) (a b : Numbers) → HasHistory (log_of c.specs s) → IsPart c s first last before rows a → IsPart c s first last before rows b → a ≡ b
