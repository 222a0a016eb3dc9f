-- What is kept at an hour point: the place before an hour's first tenth, or the window's end.
use Rattle.std.specs.Prelude.{◌≡◌, ◌-◌, ◌+◌, ℕ, ℤ, nat_lt, Bool, ◌&&◌, List, [], Option}
use Rattle.span_set.specs.declared.set.Span.{Span}
use Rattle.sig_base.specs.declared.values.Row.{Row}
use Rattle.channel_tables.specs.declared.spec.Spec.{Spec}
use Rattle.hour_store.specs.Store.{Store, is_known}
use Rattle.board.specs.Logs.{first_tenth}
use Rattle.board.specs.Stops.{AreBefore}
use Rattle.board.specs.Places.{AllEarly, AreAheadsOf}
use Rattle.ring_config.specs.Settings.{Settings}
use Rattle.signal_log.specs.Log.{IsContradiction, Log, log_of}
use Rattle.signal_log.specs.Points.{ArePastsAt, AreAheadsAt, AreAheadsFor}
use Rattle.signal_log.specs.Over.{AreAheadsOver, ArePastsOver, IsStopOver}
use Rattle.service_cut.specs.declared.parts.Part.{Part}
use Rattle.service_cut.specs.declared.items.Served.{Served}
use Rattle.service_cut.specs.Cut.{closing_at, served_from}
use Rattle.service_cut.specs.Parts.{IsCarry as IsCut}
use Rattle.other_measures.specs.Crossing.{Crossing, IsCarry as IsCrossing}
use Rattle.stop_bar.specs.Crossing.{Crossing as AtBar}
use Rattle.stop_bar.specs.All.{AreAtBars}
use Rattle.arrival_measures.specs.Crossing.{CarryParts, IsCarry as AreOpen}
use Rattle.hour_work.specs.Rows.{earlier_rows}
use Rattle.hour_work.specs.declared.steps.ForwardError.{ForwardError}
use Rattle.hour_work.specs.declared.measures.UnderWay.{UnderWay}
use Rattle.hour_work.specs.declared.steps.ForwardError.TheVariants.{Contradiction, Memory}

-- what a store says at a point between two hours of what came before: the states of each channel, whether the tenth before is known, what is under way of phases, the whole services whose red window isn't over, and what is under way at stop bars, of pedestrian signals and preempts, and of arrivals
pub record Carried : Type 0 where
  pub pasts : List (List (List Span))
  pub known : Bool
  pub cuts : List (Option Part)
  pub closing : List Served
  pub splits : List AtBar
  pub others : Crossing
  pub arrivals : CarryParts

-- the tenth before this one is known; before tenth 0 there is none
abbrev pub is_known_before : (ℕ → Bool) → ℕ → Bool
is_known_before known t = nat_lt 0 t && known (t - 1)

-- each channel has states, all of them entered before the point
pub record FitPoint (c : Settings) (k : ℕ) (carry : Carried) : Type 0 where
  pub shape : AreBefore c.specs carry.pasts
  pub early : AllEarly (first_tenth k) carry.pasts

-- what is under way of phases at point k of a store: services, yellows and cycles
abbrev pub AreCutsAt : Settings → Store → ℕ → List (Option Part) → Type 0
AreCutsAt c s k cuts = IsCut (is_known s) c.phases (earlier_rows s k) k cuts

-- these are the whole services that ended before point k of a store and whose red window isn't over there, each by its four rows
abbrev pub AreClosingAt : Settings → Store → ℕ → List Served → Type 0
AreClosingAt c s k closing = closing ≡ closing_at (first_tenth k) (served_from (is_known s) c.phases [] (earlier_rows s k))

-- what is under way at the stop bars: the open greens and the red windows that aren't over, with how long the detectors were on in them
abbrev pub AreBarsAt : Settings → Store → ℕ → List AtBar → Type 0
AreBarsAt c s k splits = AreAtBars (log_of c.specs s) c (earlier_rows s k) k splits

-- what is under way of the arrivals of approaches: the cycles so far, the vehicles still to come and the detectors in a fault
abbrev pub AreOpenAt : Settings → Store → ℕ → CarryParts → Type 0
AreOpenAt c s k arrivals = AreOpen (is_known s) c (earlier_rows s k) k arrivals

-- what is under way of pedestrian signals and preempts: waiting calls, and services
abbrev pub AreCrossingAt : Settings → Store → ℕ → Crossing → Type 0
AreCrossingAt c s k others = IsCrossing (is_known s) c (earlier_rows s k) k others

-- all that is under way at point k of a store
pub record AreUnderWayAt (c : Settings) (s : Store) (k : ℕ) (way : UnderWay) : Type 0 where
  pub cuts : AreCutsAt c s k way.cuts
  pub closing : AreClosingAt c s k way.closing
  pub splits : AreBarsAt c s k way.splits
  pub others : AreCrossingAt c s k way.others
  pub arrivals : AreOpenAt c s k way.arrivals

-- this is what a store says at point k of what came before
pub record IsCarryAt (c : Settings) (s : Store) (k : ℕ) (carry : Carried) : Type 0 where
  pub pasts : ArePastsAt (log_of c.specs s) k carry.pasts
  pub known : carry.known ≡ is_known_before (is_known s) (first_tenth k)
  pub cuts : AreCutsAt c s k carry.cuts
  pub closing : AreClosingAt c s k carry.closing
  pub splits : AreBarsAt c s k carry.splits
  pub others : AreCrossingAt c s k carry.others
  pub arrivals : AreOpenAt c s k carry.arrivals

-- these are the latest entries with which a state at point k lets the rest of the store's window be met
abbrev pub IsFutureAt : Settings → Store → ℕ → List (List (Option ℤ)) → Type 0
IsFutureAt c s k future = AreAheadsAt (log_of c.specs s) k future

-- of the states that come up at point k these admit those with which the store can be completed
abbrev pub IsFutureFor : Settings → Store → ℕ → List (List (Option ℤ)) → Type 0
IsFutureFor c s k future = AreAheadsFor (log_of c.specs s) k future

-- an error that isn't out of memory names the row at which the log contradicts itself
abbrev pub NamesRow : Log → ForwardError → Type 0
NamesRow log (Contradiction row) = IsContradiction log row
NamesRow log Memory = Unit {0}

-- an error that isn't out of memory names the hour's first known row after which its channel has no state, from these states before the hour
abbrev pub NamesStop : List Spec → ℕ → Option (List Row) → List Span → List (List (List Span)) → ForwardError → Type 0
NamesStop specs hour rows blanks before (Contradiction row) = IsStopOver specs hour rows blanks before row
NamesStop specs hour rows blanks before Memory = Unit {0}

-- by what is told of the hour, its states lead from the one to the other, whatever the states before it
pub record GoesOver (c : Settings) (hour : ℕ) (rows : Option (List Row)) (blanks : List Span) (before after : Carried) : Type 0 where
  pub fit : FitPoint c (hour + 1) after
  pub over : ArePastsOver c.specs hour rows blanks before.pasts after.pasts

-- by what is told of the hour, those at the point before it lead to those at the point after it, whatever states these admit
pub record ComesBack (c : Settings) (hour : ℕ) (rows : Option (List Row)) (blanks : List Span) (after before : List (List (Option ℤ))) : Type 0 where
  pub fit : AreAheadsOf c.specs before
  pub was : AreAheadsOf c.specs after
  pub over : AreAheadsOver c.specs hour rows blanks after before
