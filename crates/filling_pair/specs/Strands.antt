-- Channels' runs with the events that fill the unknown tenths.
use Rattle.std.specs.Prelude.{◌≡◌, ◌⊎◌, ◌↔◌, ℕ, ◌+◌, ◌<◌, ◌≤◌, Bool, true, false, if◌then◌else◌, IsSome, List, [], ◌∷◌, length, map}
use Rattle.std.specs.List.{AllByRecursion}
use Rattle.sig_base.specs.declared.values.Row.{Row}
use Rattle.reach.specs.Runs.{State, state}
use Rattle.board.specs.History.{Agreeing, Event, Track, events_at}
use Rattle.board.specs.Verdicts.{HasSpec}
use Rattle.signal_log.specs.Log.{IsBeforeWindow, Log, track_at, window_end}
use Rattle.rule_audit.specs.declared.rules.Rule.{Rule}
use Rattle.rule_audit.specs.declared.rules.Rule.TheVariants.{Interval}
use Rattle.rule_audit.specs.Obligations.{terms_of}
use Rattle.filling_pair.specs.declared.strands.Fill.{Fill}
use Rattle.filling_pair.specs.declared.strands.Strand.{Strand}

-- the fills as rows
abbrev pub rows_of : List Fill → List Row
rows_of fs = map (λ f. record { at = f.at; code = f.code; param = f.param }) fs

-- what stands at a tenth: its known rows where it is known, else the fills
abbrev pub events_with : Log → List Fill → ℕ → List Event
events_with log fills x = if log.known x then events_at log.rows x else events_at (rows_of fills) x

-- each fill is a letter of the channel at an unknown tenth from low up to end, and none is before the one in front of it
abbrev pub AreFills : Track → (ℕ → Bool) → ℕ → ℕ → List Fill → Type 0
AreFills k known low end [] = Unit {0}
AreFills k known low end (f ∷ fs) = (low ≤ f.at) × (f.at < end) × (known f.at ≡ false) × IsSome (k.letter f.code f.param) × AreFills k known f.at end fs

-- the state with which the strand starts
abbrev pub start_of : Strand → State
start_of s = state s.colour s.entry

-- what stands at the tenths before t leads the strand's channel from its start to the state
abbrev pub Leads : Log → Strand → ℕ → State → Type 0
Leads log s t u = Agreeing (track_at log s.spec) (λ x. true) (events_with log s.fills) 0 t (start_of s) u

-- a start before the window and fills of one of the channels, with which what stands at the tenths is legal for it
pub record IsStrand (log : Log) (s : Strand) : Type 0 where
  pub spec : s.spec < length log.specs
  pub start : IsBeforeWindow (track_at log s.spec).rules (start_of s)
  pub fills : AreFills (track_at log s.spec) log.known 0 (window_end log) s.fills
  pub legal : (u : State) × Leads log s (window_end log) u

-- the channels ascend, the first being low or a later one
abbrev pub Ascend : ℕ → List Strand → Type 0
Ascend low [] = Unit {0}
Ascend low (s ∷ ss) = (low ≤ s.spec) × Ascend (s.spec + 1) ss

-- one of the strands is of the channel
abbrev pub HasStrand : ℕ → List Strand → Type 0
HasStrand i [] = ⊥
HasStrand i (s ∷ ss) = (s.spec ≡ i) ⊎ HasStrand i ss

-- the rule is about the channel
abbrev pub IsAbout : Rule → ℕ → Type 0
IsAbout (Interval item) i = item.spec ≡ i
IsAbout rule i = HasSpec i (terms_of rule)

-- strands of the log, one for each channel of the rule, by ascending channel
pub record AreStrands (log : Log) (rule : Rule) (ss : List Strand) : Type 0 where
  pub ascend : Ascend 0 ss
  pub channels : (i : ℕ) → HasStrand i ss ↔ IsAbout rule i
  pub each : AllByRecursion (IsStrand log) ss

-- stands where a list has no fill
abbrev pub no_fill : Fill
no_fill = record { at = 0; code = 0; param = 0 }

-- ---- For contracts alone

-- the fill as a row
abbrev pub row_of : Fill → Row
row_of f = record { at = f.at; code = f.code; param = f.param }

-- each of these is a strand of the log
abbrev pub AreAllStrands : Log → List Strand → Type 0
AreAllStrands log ss = AllByRecursion (IsStrand log) ss
