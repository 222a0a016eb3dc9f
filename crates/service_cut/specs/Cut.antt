-- What an hour lists.
use Rattle.std.specs.Prelude.{ℕ, ◌≡◌, ◌+◌, nat_le, nat_lt, ◌&&◌, Bool, List, [], ◌++◌, filter_map}
use Rattle.std.specs.List.{filter}
use Rattle.sig_base.specs.declared.values.Row.{Row}
use Rattle.sig_base.specs.declared.values.PhaseItem.{PhaseItem}
use Rattle.sig_base.specs.Numbers.{has_phase}
use Rattle.hour_sweep.specs.Rows.{known_rows}
use Rattle.hour_sweep.specs.Hours.{AreOrdered, point}
use Rattle.hour_sweep.specs.Numbers.{outs_from}
use Rattle.service_cut.specs.declared.items.Service.{Service}
use Rattle.service_cut.specs.declared.items.Served.{Served}
use Rattle.service_cut.specs.declared.items.Cycle.{Cycle}
use Rattle.service_cut.specs.declared.items.OpenService.{OpenService}
use Rattle.service_cut.specs.declared.items.OpenCycle.{OpenCycle}
use Rattle.service_cut.specs.Services.{service_at, served_at}
use Rattle.service_cut.specs.Cycles.{cycle_at}
use Rattle.service_cut.specs.Parts.{parts_of, open_service, open_cycle}

-- the whole services that end among the rows, in their order, where the first rows stand before them
abbrev pub services_from : (ℕ → Bool) → List PhaseItem → List Row → List Row → List Service
services_from known phases before rows = outs_from (service_at known) (has_phase phases) before rows

-- the four rows of the whole services that end among the rows, in their order, where the first rows stand before them
abbrev pub served_from : (ℕ → Bool) → List PhaseItem → List Row → List Row → List Served
served_from known phases before rows = outs_from (λ p earlier r rest. served_at known p earlier r) (has_phase phases) before rows

-- the services whose red window, the 50 tenths from r on, isn't over at tenth t
abbrev pub closing_at : ℕ → List Served → List Served
closing_at t ws = filter (λ w. nat_lt t (w.r.at + 50)) ws

-- a phase and the tenths of its b, g, y and r
pub record Tenths : Type 0 where
  pub phase : ℕ
  pub b : ℕ
  pub g : ℕ
  pub y : ℕ
  pub r : ℕ

-- those of a service, and of its rows
abbrev pub service_tenths : Service → Tenths
service_tenths s = record { phase = s.phase; b = s.b; g = s.g; y = s.y; r = s.r }

abbrev pub served_tenths : Served → Tenths
served_tenths s = record { phase = s.phase; b = s.b.at; g = s.g.at; y = s.y.at; r = s.r.at }

-- the whole cycles that end among the rows, in their order, where the first rows stand before them
abbrev pub cycles_from : (ℕ → Bool) → List PhaseItem → List Row → List Row → List Cycle
cycles_from known phases before rows = outs_from (λ p earlier r rest. cycle_at known p earlier r) (has_phase phases) before rows

-- the last row has its tenth from a up to b
abbrev pub service_is_in : ℕ → ℕ → Service → Bool
service_is_in a b s = nat_le a s.r && nat_lt s.r b

abbrev pub cycle_is_in : ℕ → ℕ → Cycle → Bool
cycle_is_in a b c = nat_le a c.to && nat_lt c.to b

-- of all that is listed of a log, what is in an hour from tenth a up to tenth b is the hour's part
abbrev pub AreHourParts : {X : Type 0} → ((ℕ → Bool) → List PhaseItem → List Row → List Row → List X) → (ℕ → ℕ → X → Bool) → Type 0
AreHourParts of is_in = (known : ℕ → Bool) (phases : List PhaseItem) (a b c : ℕ) (before rows later : List Row) → AreOrdered 0 a before → AreOrdered a b rows → AreOrdered b c later → filter (is_in a b) (of known phases [] (before ++ (rows ++ later))) ≡ of known phases before rows

-- what is seen of an hour's lists
pub record CutLists : Type 0 where
  pub services : List Service
  pub served : List Served
  pub cycles : List Cycle
  pub open_services : List OpenService
  pub open_cycles : List OpenCycle

-- the lists of an hour with these rows, where these are the known rows before it
pub record IsCut (known : ℕ → Bool) (phases : List PhaseItem) (before : List Row) (hour : ℕ) (rows : List Row) (cuts : CutLists) : Type 0 where
  pub services_are : cuts.services ≡ services_from known phases before (known_rows known rows)
  pub served_are : cuts.served ≡ served_from known phases before (known_rows known rows)
  pub cycles_are : cuts.cycles ≡ cycles_from known phases before (known_rows known rows)
  pub open_services_are : cuts.open_services ≡ filter_map open_service (parts_of known (point (hour + 1)) phases (before ++ known_rows known rows))
  pub open_cycles_are : cuts.open_cycles ≡ filter_map open_cycle (parts_of known (point (hour + 1)) phases (before ++ known_rows known rows))
