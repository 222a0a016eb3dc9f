-- The hours whose answers can change by an edit.
use Rattle.std.specs.Prelude.{◌≡◌, ◌+◌, ◌*◌, ◌≤◌, ◌<◌, ◌⊎◌, ℕ, ℤ, pos, ◌-ℤ◌, ◌≤ℤ◌, ◌<ℤ◌, false, List, length, slice_index_or}
use Rattle.sig_base.specs.declared.values.Applied.{Applied}
use Rattle.hour_store.specs.Store.{Store}
use Rattle.ring_config.specs.Settings.{Settings}
use Rattle.rule_audit.specs.declared.lines.AuditLine.{AuditLine}
use Rattle.hour_work.specs.Moved.{IsSameCarry, IsSameFuture}
use Rattle.hour_work.specs.Numbers.{Numbers}
use Rattle.hour_work.specs.Reports.{IsReport}
use Rattle.session.specs.Edits.{Change, load, replace, withdraw, blank, unblank}
use Rattle.session.specs.Windows.{AreHourLines}

-- the tenth is one of the hour
abbrev pub IsIn : ℤ → ℕ → Type 0
IsIn t hour = (pos (36000 * hour) ≤ℤ t) × (t <ℤ pos (36000 * (hour + 1)))

-- the first and the last hour that an edit touches: its hour, or those of the first and the last tenth of its range
abbrev pub Touches : Change → ℕ → ℕ → Type 0
Touches (load r) first last = (first ≡ r.hour) × (last ≡ r.hour)
Touches (replace r) first last = (first ≡ r.hour) × (last ≡ r.hour)
Touches (withdraw hour) first last = (first ≡ hour) × (last ≡ hour)
Touches (blank from to) first last = IsIn from first × IsIn (to -ℤ pos 1) last
Touches (unblank from to) first last = IsIn from first × IsIn (to -ℤ pos 1) last

-- the hours that move between two stores which differ from the hour `first` to the hour `last` alone. They begin at the greatest point at or before the hour `first` from which both can be completed from the same states, or at the window's start; they end at the least point after the hour `last` up to which both say the same, or at the window's end. The numbers and the verdicts of all other hours stay, but not always the windows of their broken lines or the diagrams of cycles that cross a point
pub record AreMoved (c : Settings) (s t : Store) (first last : ℕ) (moved : Applied) : Type 0 where
  pub from_low : moved.from ≤ first
  pub from_same : (moved.from ≡ 0) ⊎ IsSameFuture c s t moved.from
  pub from_greatest : (k : ℕ) → moved.from < k → k ≤ first → IsSameFuture c s t k → ⊥
  pub to_low : last < moved.to
  pub to_high : moved.to ≤ length s.hours
  pub to_same : (moved.to ≡ length s.hours) ⊎ IsSameCarry c s t moved.to
  pub to_least : (k : ℕ) → last < k → k < moved.to → IsSameCarry c s t k → ⊥

-- these hours move by an edit that makes the second store of the first one
abbrev pub Moves : Settings → Store → Store → Change → Applied → Type 0
Moves c s t change moved = (first : ℕ) × (last : ℕ) × Touches change first last × AreMoved c s t first last moved

-- the reports of both stores have the same numbers for every hour that doesn't move
abbrev pub KeepParts : Settings → Store → Store → Applied → Type 0
KeepParts c s t moved = (a b : List Numbers) (hour : ℕ) (d : Numbers) → IsReport c s a → IsReport c t b → (hour < moved.from) ⊎ (moved.to ≤ hour) → slice_index_or b hour d ≡ slice_index_or a hour d

-- the audits of both stores, where windows aren't looked for, have the same lines for every hour of the window that doesn't move
abbrev pub KeepLines : Settings → Store → Store → Applied → Type 0
KeepLines c s t moved = (a b : List AuditLine) (hour : ℕ) → hour < length s.hours → AreHourLines c s hour false a → AreHourLines c t hour false b → (hour < moved.from) ⊎ (moved.to ≤ hour) → b ≡ a
