-- What crosses a point between two hours.
use Rattle.std.specs.Prelude.{ℕ, ◌≡◌, ◌+◌, ◌<◌, max, Bool, List, [], ◌∷◌, Option, Some, None, option_map, All}
use Rattle.sig_base.specs.declared.values.Row.{Row}
use Rattle.sig_base.specs.declared.values.PhaseItem.{PhaseItem}
use Rattle.sig_base.specs.Numbers.{has_phase}
use Rattle.hour_sweep.specs.Hours.{point}
use Rattle.hour_sweep.specs.Numbers.{table}
use Rattle.service_cut.specs.declared.items.OpenService.{OpenService}
use Rattle.service_cut.specs.declared.items.OpenCycle.{OpenCycle}
use Rattle.service_cut.specs.declared.services.ServiceBegun.{ServiceBegun}
use Rattle.service_cut.specs.declared.cycles.CycleBegun.{CycleBegun}
use Rattle.service_cut.specs.declared.parts.Part.{Part}
use Rattle.service_cut.specs.Services.{service_begun_of}
use Rattle.service_cut.specs.Cycles.{yellow_of, cycle_begun_of}

-- how many places a table needs in which each phase stands at its number
abbrev pub room : List PhaseItem → ℕ
room [] = 0
room (p ∷ ps) = max (p.number + 1) (room ps)

-- what is under way of phase p at tenth t, where these known rows stand before it
abbrev pub part_of : (ℕ → Bool) → ℕ → List Row → ℕ → Part
part_of known t before p = record { phase = p; service = service_begun_of known t p before; yellow = yellow_of known t p before; cycle = cycle_begun_of known t p before }

-- what is under way of each phase at tenth t, each at the place of its number
abbrev pub parts_of : (ℕ → Bool) → ℕ → List PhaseItem → List Row → List (Option Part)
parts_of known t phases before = table (has_phase phases) (room phases) (part_of known t before)

-- these parts are what is under way of phases at point k, where these are the known rows before it
pub record IsCarry (known : ℕ → Bool) (phases : List PhaseItem) (before : List Row) (k : ℕ) (parts : List (Option Part)) : Type 0 where
  pub earlier : All (λ x. x.at < point k) before
  pub parts_are : parts ≡ parts_of known (point k) phases before

-- an open service by its tenths
abbrev pub open_service_of : ℕ → Option ServiceBegun → Option OpenService
open_service_of p None = None
open_service_of p (Some s) = Some (record { phase = p; b = s.b.at; g = option_map (λ x. x.at) s.g })

-- the open service of a part
unfoldable pub open_service : Option Part → Option OpenService
open_service None = None
open_service (Some a) = open_service_of a.phase a.service

-- an open cycle by its tenth
abbrev pub open_cycle_of : ℕ → Option CycleBegun → Option OpenCycle
open_cycle_of p begun = option_map (λ s. record { phase = p; from = s.from.at }) begun

-- the live last yellow end of a part
unfoldable pub open_cycle : Option Part → Option OpenCycle
open_cycle None = None
open_cycle (Some a) = open_cycle_of a.phase a.cycle
