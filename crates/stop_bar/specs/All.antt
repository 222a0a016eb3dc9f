-- The stop bars of a configuration, in an hour and at a point.
use Rattle.std.specs.Prelude.{ℕ, ◌≡◌, ◌+◌, ◌++◌, true, All, Option, Some, List, filter_map, is_some, option_map}
use Rattle.sig_base.specs.declared.values.PhaseItem.{PhaseItem}
use Rattle.sig_base.specs.HourRows.{AreRowsOf}
use Rattle.sig_base.specs.declared.values.Row.{Row}
use Rattle.sig_base.specs.Numbers.{has_phase}
use Rattle.span_set.specs.declared.set.Span.{Span}
use Rattle.event_codes.specs.declared.channels.Kind.TheVariants as kinds
use Rattle.gap_map.specs.declared.stretch.Stretch.{Stretch}
use Rattle.gap_map.specs.Stretches.{IsCut as IsCutBy, known_in}
use Rattle.board.specs.Channels.{AreSpecs}
use Rattle.board.specs.Logs.{end_tenth, first_tenth}
use Rattle.hour_store.specs.Store.{Store}
use Rattle.signal_log.specs.Log.{Log, log_of}
use Rattle.signal_log.specs.Points.{ArePastsAt, HasHour, rows_or_none}
use Rattle.hour_sweep.specs.Rows.{known_rows}
use Rattle.service_cut.specs.Cut.{CutLists, IsCut}
use Rattle.ring_config.specs.Settings.{Settings, spec_place}
use Rattle.ring_config.specs.declared.items.Approach.{Approach}
use Rattle.detector_state.specs.declared.part.Part.{Part}
use Rattle.detector_state.specs.Hours.{IsSwitched}
use Rattle.stop_bar.specs.declared.windows.Windows.{Windows}
use Rattle.stop_bar.specs.Going.{AreRowsAbout}
use Rattle.stop_bar.specs.declared.bars.StopBar.{StopBar}
use Rattle.stop_bar.specs.Crossing.{Crossing}
use Rattle.stop_bar.specs.Bars.{AreOver, IsAtBar}
use Rattle.stop_bar.specs.Lists.{Each}
use Rattle.std.specs.List.{AllZip}

-- the stop bar of an approach, where it has a detector there
abbrev pub bar_with : Approach → Option ℕ → Option StopBar
bar_with a detector = option_map (λ d. record { phase = a.phase; detector = d; high = a.high }) detector

-- For contracts alone: the stop bars of the approaches that have a detector there, in file order.
abbrev pub bars_of : List Approach → List StopBar
bars_of approaches = filter_map (λ a. bar_with a a.stop_bar) approaches

-- each bar is of a configured phase
abbrev pub AreServed : List PhaseItem → List StopBar → Type 0
AreServed phases bars = All (λ b. has_phase phases b.phase ≡ true) bars

-- the detector of the bar has this place among the channels
abbrev pub IsPlaceOf : Settings → StopBar → ℕ → Type 0
IsPlaceOf c b i = spec_place c.specs (record { kind = kinds.Detector; number = b.detector }) ≡ Some i

-- these are what is under way at point k at the stop bars of the approaches that have a detector there, in file order
abbrev pub AreAtBars : Log → Settings → List Row → ℕ → List Crossing → Type 0
AreAtBars log c before k ats = AllZip (λ b at. (i : ℕ) → IsPlaceOf c b i → IsAtBar log i c.phases b.phase before k at) (filter_map (λ a. bar_with a a.stop_bar) c.approaches) ats

-- these are the colours of their detectors in the hour
abbrev pub AreTold : Log → Settings → ℕ → List (List Part) → Type 0
AreTold log c hour told = Each (λ b parts. (i : ℕ) → IsPlaceOf c b i → IsSwitched log i hour parts) (bars_of c.approaches) told

-- these are the windows that end in the hour
abbrev pub AreAllOver : Log → Settings → ℕ → List Row → List (List Windows) → Type 0
AreAllOver log c hour upto ended = Each (λ b ws. (i : ℕ) → IsPlaceOf c b i → AreOver log i c.phases b.phase hour upto ws) (bars_of c.approaches) ended

-- an hour of a log: the known rows before it, its rows, and what service_cut lists of it
pub record IsCutHour (log : Log) (c : Settings) (hour : ℕ) (before rows : List Row) (cuts : CutLists) : Type 0 where
  pub about : AreRowsAbout hour before rows
  pub cut : IsCut log.known c.phases before hour rows cuts

-- from what crosses the point before an hour of any log come the windows that end in the hour and what crosses the point after it
abbrev pub AreBarHours : Settings → ℕ → List Crossing → CutLists → List (List Part) → List (List Windows) → List Crossing → Type 0
AreBarHours c hour ats cuts told ended after = (log : Log) (before rows : List Row) → IsCutHour log c hour before rows cuts → AreTold log c hour told → AreAtBars log c before hour ats → let upto = before ++ known_rows log.known rows in AreAllOver log c hour upto ended × AreAtBars log c upto (hour + 1) after

-- an hour of a store with these rows, none where it isn't held, and these stretches, and the states of each channel at the point before it
pub record IsHourHeld (c : Settings) (s : Store) (hour : ℕ) (rows : List Row) (ss : List Stretch) (pasts : List (List (List Span))) : Type 0 where
  pub specs : AreSpecs c.specs
  pub held : Option (List Row)
  pub blanks : List Span
  pub is_rows : rows ≡ rows_or_none held
  pub are_rows : AreRowsOf hour rows
  pub has : HasHour s hour held blanks
  pub cut : IsCutBy (known_in (is_some held) blanks) (first_tenth hour) (end_tenth hour) ss
  pub states : ArePastsAt (log_of c.specs s) hour pasts
