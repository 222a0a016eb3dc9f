-- What a whole configuration says.
use Rattle.std.specs.Prelude.{◌≡◌, ◌≢◌, ◌≤◌, ◌≤ℤ◌, ◌⊎◌, ◌↔◌, ◌+◌, ◌-◌, ◌/◌, ◌+ℤ◌, ℕ, pos, Bool, false, List, [], ◌∷◌, length, codes, Some, All, AllPairs, Ok, IsUtf8}
use Rattle.toml.specs.Data.{string, boolean, Members}
use Rattle.toml.specs.Parse.{parse_document}
use Rattle.jiff_core.specs.Calendar.{days_from_civil}
use Rattle.sig_base.specs.Window.{Span}
use Rattle.row_reader.specs.Stamp.{hour_stamp_of}
use Rattle.ring_config.specs.Settings.{Settings, Layout, config_at, config_of, signal_channels, all_channels, specs_from}
use Rattle.config_laws.specs.Keys.{StandsAt, IsAbsent, HasOnly, HasNumber, HasTables}
use Rattle.config_laws.specs.Entries.{Floor, IsPhaseEntry, IsPedEntry, IsOverlapEntry, IsPreemptEntry, IsConflictEntry, IsAllowEntry, IsFloorEntry, IsIntervalEntry, IsApproachEntry, IsSamePair, IsSameColour}

-- ---- the keys that are no tables

-- a printed character other than a comma or a double quote
pub record IsSignalByte (b : ℕ) : Type 0 where
  pub least : 0x21 ≤ b
  pub most : b ≤ 0x7E
  pub comma : b ≢ 0x2C
  pub quote : b ≢ 0x22

-- a text of 1 to 32 of these stands at `signal`
pub record HasSignal (ms : Members) (signal : List ℕ) : Type 0 where
  pub there : StandsAt (codes "signal") ms (string signal)
  pub some : 1 ≤ length signal
  pub few : length signal ≤ 32
  pub each : All IsSignalByte signal

-- the window begins at the hour that stands at `start`, and has the 1 to 744 hours that stand at `hours`; the day of its last hour is at most 9999-12-31
pub record HasWindow (ms : Members) (w : Span) : Type 0 where
  pub text : List ℕ
  pub there : StandsAt (codes "start") ms (string text)
  pub start : hour_stamp_of text ≡ Some (w.day, w.hour)
  pub hours : HasNumber 1 744 (codes "hours") ms w.hours
  pub last : (w.day +ℤ pos ((w.hour + w.hours - 1) / 24)) ≤ℤ days_from_civil (pos 9999) 12 31

-- true or false stands at `coordination`; it is false where nothing does
abbrev pub HasCoordination : Members → Bool → Type 0
HasCoordination ms on = StandsAt (codes "coordination") ms (boolean on) ⊎ (IsAbsent (codes "coordination") ms × (on ≡ false))

-- ---- tables

-- each of these tables says the item of its place
abbrev pub Say : {X : Type 0} → (Members → X → Type 0) → List Members → List X → Type 0
Say IsEntry [] [] = Unit {0}
Say IsEntry [] (x ∷ xs) = ⊥
Say IsEntry (ms ∷ mss) [] = ⊥
Say IsEntry (ms ∷ mss) (x ∷ xs) = IsEntry ms x × Say IsEntry mss xs

-- at the key there is an array of at most so many tables, or none, which say these items in order, and any two of the items differ
pub record HasTable {X : Type 0} (limit : ℕ) (IsEntry : Members → X → Type 0) (Differ : X → X → Type 0) (key : List ℕ) (ms : Members) (xs : List X) : Type 0 where
  pub entries : List Members
  pub there : HasTables key ms entries
  pub few : length entries ≤ limit
  pub each : Say IsEntry entries xs
  pub distinct : AllPairs Differ xs

-- ---- all of it

-- what the intersection has
abbrev pub layout : Settings → Layout
layout c = record { phases = c.phases; peds = c.peds; overlaps = c.overlaps; preempts = c.preempts }

-- the document says the configuration
pub record Describes (ms : Members) (c : Settings) : Type 0 where
  pub only : HasOnly (codes "signal" ∷ codes "start" ∷ codes "hours" ∷ codes "coordination" ∷ codes "phase" ∷ codes "ped" ∷ codes "overlap" ∷ codes "preempt" ∷ codes "conflict" ∷ codes "allow" ∷ codes "floor" ∷ codes "interval" ∷ codes "approach" ∷ []) ms
  pub signal : HasSignal ms c.signal
  pub window : HasWindow ms c.window
  pub coordination : HasCoordination ms c.coordination
  pub phases : HasTable 16 IsPhaseEntry (λ p q. p.number ≢ q.number) (codes "phase") ms c.phases
  pub peds : HasTable 16 (IsPedEntry c.phases) (λ p q. p ≢ q) (codes "ped") ms c.peds
  pub overlaps : HasTable 16 (IsOverlapEntry c.phases) (λ o p. o.number ≢ p.number) (codes "overlap") ms c.overlaps
  pub preempts : HasTable 16 IsPreemptEntry (λ p q. p ≢ q) (codes "preempt") ms c.preempts
  pub conflicts : HasTable 120 (IsConflictEntry c.phases) (λ p q. ¬ IsSamePair p q) (codes "conflict") ms c.conflicts
  pub allows : HasTable 120 (IsAllowEntry c.phases c.conflicts) (λ p q. ¬ IsSamePair p q) (codes "allow") ms c.allows
  pub floors : List Floor
  pub floors_are : HasTable 512 (IsFloorEntry (signal_channels (layout c))) (λ f g. ¬ IsSameColour f g) (codes "floor") ms floors
  pub intervals : HasTable 256 (IsIntervalEntry (signal_channels (layout c))) (λ r s. Unit {0}) (codes "interval") ms c.intervals
  pub approaches : HasTable 64 (IsApproachEntry c.phases) (λ a b. a.name ≢ b.name) (codes "approach") ms c.approaches
  pub specs : c.specs ≡ specs_from floors 0 (all_channels (layout c) c.approaches c.coordination)

-- exactly the configurations that a document says are accepted
abbrev pub ConfigurationsAreAccepted : Type 0
ConfigurationsAreAccepted = (ms : Members) (c : Settings) → (config_at ms ≡ Ok c) ↔ Describes ms c

-- the file is UTF-8 and a TOML document, which says the configuration
pub record IsFileOf (bytes : List ℕ) (c : Settings) : Type 0 where
  pub utf8 : IsUtf8 bytes
  pub document : Members
  pub parsed : parse_document bytes ≡ Some document
  pub says : Describes document c

-- exactly the files of configurations are accepted
abbrev pub FilesAreAccepted : Type 0
FilesAreAccepted = (bytes : List ℕ) (c : Settings) → (config_of bytes ≡ Ok c) ↔ IsFileOf bytes c
