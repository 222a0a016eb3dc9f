-- The sums of measures add up.
use Rattle.std.specs.Prelude.{ℕ, ◌≡◌, ◌+◌, ◌^◌, ◌<◌, List, length, slice_index_or}
use Rattle.sig_base.specs.declared.values.Row.{Row}
use Rattle.board.specs.Logs.{end_tenth, first_tenth}
use Rattle.hour_store.specs.Store.{IsStore, Store, is_known}
use Rattle.signal_log.specs.Log.{HasHistory, Log, log_of}
use Rattle.ring_config.specs.Settings.{Settings}
use Rattle.stop_bar.specs.declared.bars.StopBar.{StopBar}
use Rattle.stop_bar.specs.Bars.{ending, services_upto}
use Rattle.split_measures.specs.declared.failures.SplitSum.{SplitSum}
use Rattle.split_measures.specs.Failures.{both_sums}
use Rattle.split_measures.specs.Hours.{IsSplitSum, open_in}
use Rattle.arrival_measures.specs.declared.sums.ArrivalSum.{ArrivalSum}
use Rattle.arrival_measures.specs.Hours.{AreAllJudged, added}
use Rattle.hour_work.specs.Rows.{earlier_rows, own_rows}
use Rattle.hour_work.specs.Measures.{MayBeIn}

-- the numbers of all verdicts together, as they are printed after `splits`
abbrev pub all_verdicts : SplitSum → ℕ
all_verdicts f = f.fail + f.pass + f.undecided + f.left_open + f.fault

-- how many services count in the hour at the stop bar, by the known rows up to its end: those whose red window ends in it, and in the last hour those that are open
abbrev pub services_counted : Log → Settings → StopBar → ℕ → List Row → ℕ
services_counted log c b hour upto = let all = services_upto log.known c.phases b.phase upto in length (ending (first_tenth hour) (end_tenth hour) all) + length (open_in c.window.hours hour all)

-- fewer rows than a count has numbers
abbrev pub AreCountable : List Row → Type 0
AreCountable rows = length rows < 2 ^ 64

-- the verdicts of a sum of services are as many as the services that count, where there are fewer rows than a count has numbers
abbrev pub SplitsAddUp : Type 0
SplitsAddUp = (log : Log) (c : Settings) (i : ℕ) (b : StopBar) (hour : ℕ) (upto : List Row) (sum : SplitSum) → AreCountable upto → IsSplitSum log c i b hour upto sum → all_verdicts sum ≡ services_counted log c b hour upto

-- the arrivals are those of each verdict, and those that are unseen
abbrev pub AddsUp : ArrivalSum → Type 0
AddsUp a = a.arrivals ≡ a.green + a.not_green + a.undecided + a.unseen

-- the arrivals of each approach in an hour are those of each verdict, and those that are unseen
abbrev pub ArrivalsAddUp : Type 0
ArrivalsAddUp = (c : Settings) (s : Store) (hour : ℕ) (sums : List ArrivalSum) (i : ℕ) (d : ArrivalSum) → IsStore s → hour < length s.hours → HasHistory (log_of c.specs s) → AreAllJudged (MayBeIn c s) (is_known s) c (earlier_rows s hour) (own_rows s hour) hour sums → i < length c.approaches → AddsUp (slice_index_or sums i d)

-- as long as no count is at its end
abbrev pub SumsKeepAddingUp : Type 0
SumsKeepAddingUp = ((a b : ArrivalSum) → a.arrivals + b.arrivals < 2 ^ 64 → AddsUp a → AddsUp b → AddsUp (added a b)) × ((a b : SplitSum) → all_verdicts a + all_verdicts b < 2 ^ 64 → all_verdicts (both_sums a b) ≡ all_verdicts a + all_verdicts b)
