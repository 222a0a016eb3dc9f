-- Which table of a configuration is refused first.
use Rattle.std.specs.Prelude.{◌≡◌, ◌⊎◌, ◌↔◌, ℕ, Bool, List, [], ◌∷◌, codes, Err}
use Rattle.toml.specs.Data.{Members}
use Rattle.sig_base.specs.Window.{Span}
use Rattle.ring_config.specs.declared.error.ConfigError.{ConfigError}
use Rattle.ring_config.specs.Walk.{Rules}
use Rattle.ring_config.specs.Tables.{LayoutArrays, DetailArrays, phase_rules, ped_rules, overlap_rules, preempt_rules, conflict_rules, allow_rules, floor_rules, interval_rules, approach_rules}
use Rattle.ring_config.specs.Settings.{Layout, config_at, layout_of, details_of, signal_channels}
use Rattle.config_laws.specs.Walk.{IsAcceptedTable, IsRefusedTable}
use Rattle.config_laws.specs.Keys.{HasOnly, HasTables}
use Rattle.config_laws.specs.Document.{HasSignal, HasWindow, HasCoordination}

-- a table is refused; or it is accepted, and then what comes after it is refused
abbrev pub IsRefusedFrom : {X : Type 0} → Rules X → List Members → ConfigError → (List X → Type 0) → Type 0
IsRefusedFrom {X} rules mss error After = IsRefusedTable rules mss error ⊎ ((xs : List X) × IsAcceptedTable rules mss xs × After xs)

-- of what the intersection has the first table that is refused, in the order of the format
abbrev pub IsRefusedLayout : LayoutArrays → ConfigError → Type 0
IsRefusedLayout x error =
    IsRefusedFrom phase_rules x.phase error (λ phases. IsRefusedFrom (ped_rules phases) x.ped error (λ peds. IsRefusedFrom (overlap_rules phases) x.overlap error (λ overlaps. IsRefusedTable preempt_rules x.preempt error)))

-- of what is said of it the first table that is refused, in the order of the format
abbrev pub AreRefusedDetails : Layout → DetailArrays → ConfigError → Type 0
AreRefusedDetails l x error =
    IsRefusedFrom (conflict_rules l.phases) x.conflict error (λ conflicts. IsRefusedFrom (allow_rules l.phases conflicts) x.allow error (λ allows. IsRefusedFrom (floor_rules (signal_channels l)) x.floor error (λ floors. IsRefusedFrom (interval_rules (signal_channels l)) x.interval error (λ intervals. IsRefusedTable (approach_rules l.phases) x.approach error))))

-- what the intersection has is refused exactly for its first table that is refused
abbrev pub LayoutsAreRefused : Type 0
LayoutsAreRefused = (x : LayoutArrays) (error : ConfigError) → (layout_of x ≡ Err error) ↔ IsRefusedLayout x error

-- what is said of it is refused exactly for its first table that is refused
abbrev pub DetailsAreRefused : Type 0
DetailsAreRefused = (l : Layout) (x : DetailArrays) (error : ConfigError) → (details_of l x ≡ Err error) ↔ AreRefusedDetails l x error

-- the document has no key but those of the format, its single values are good, and at its other keys there are arrays of these tables
pub record HasArrays (ms : Members) (x : LayoutArrays) (y : DetailArrays) : Type 0 where
  pub only : HasOnly (codes "signal" ∷ codes "start" ∷ codes "hours" ∷ codes "coordination" ∷ codes "phase" ∷ codes "ped" ∷ codes "overlap" ∷ codes "preempt" ∷ codes "conflict" ∷ codes "allow" ∷ codes "floor" ∷ codes "interval" ∷ codes "approach" ∷ []) ms
  pub signal : List ℕ
  pub signal_there : HasSignal ms signal
  pub window : Span
  pub window_there : HasWindow ms window
  pub coordination : Bool
  pub coordination_there : HasCoordination ms coordination
  pub phase : HasTables (codes "phase") ms x.phase
  pub ped : HasTables (codes "ped") ms x.ped
  pub overlap : HasTables (codes "overlap") ms x.overlap
  pub preempt : HasTables (codes "preempt") ms x.preempt
  pub conflict : HasTables (codes "conflict") ms y.conflict
  pub allow : HasTables (codes "allow") ms y.allow
  pub floor : HasTables (codes "floor") ms y.floor
  pub interval : HasTables (codes "interval") ms y.interval
  pub approach : HasTables (codes "approach") ms y.approach

-- of all tables the first one that is refused, in the order of the format
abbrev pub AreRefusedTables : LayoutArrays → DetailArrays → ConfigError → Type 0
AreRefusedTables x y error =
    IsRefusedFrom phase_rules x.phase error (λ phases. IsRefusedFrom (ped_rules phases) x.ped error (λ peds. IsRefusedFrom (overlap_rules phases) x.overlap error (λ overlaps. IsRefusedFrom preempt_rules x.preempt error (λ preempts.
    AreRefusedDetails (record { phases = phases; peds = peds; overlaps = overlaps; preempts = preempts }) y error))))

-- a document whose keys and single values are good is refused exactly for its first table that is refused
abbrev pub DocumentsAreRefused : Type 0
DocumentsAreRefused = (ms : Members) (x : LayoutArrays) (y : DetailArrays) (error : ConfigError) → HasArrays ms x y → (config_at ms ≡ Err error) ↔ AreRefusedTables x y error
