-- How often hours are opened.
use Rattle.std.specs.Prelude.{◌≡◌, ◌+◌, ◌-◌, ◌/◌, ◌^◌, ◌≤◌, ◌<◌, ◌⊎◌, ℕ, zero, suc, Bool, if◌then◌else◌, List, length, min, slice_index, Result, Ok, Err}
use Rattle.sig_base.specs.declared.values.Applied.{Applied}
use Rattle.sig_base.specs.declared.values.EditError.{EditError}
use Rattle.sig_base.specs.declared.values.EditError.TheVariants.{Contradiction, Memory}
use Rattle.hour_work.specs.declared.steps.ForwardError.{ForwardError}
use Rattle.hour_work.specs.declared.steps.ForwardError.TheVariants as stop
use Rattle.hour_sweep.specs.Sums.{one_if}
use Rattle.session.specs.Edits.{Change}
use Rattle.session.specs.Links.{waits}
use Rattle.session.specs.Moved.{Touches}

-- a count after so many openings of its hour; it ends at the last value of a u64
unfoldable pub count_after : ℕ → ℕ → ℕ
count_after n zero = n
count_after n (suc k) = min (n + suc k) (2 ^ 64 - 1)

-- by its counts before and after, an hour was opened at least `low` and at most `high` times
pub record IsOpened (low high old new : ℕ) : Type 0 where
  pub times : ℕ
  pub least : low ≤ times
  pub most : times ≤ high
  pub count : new ≡ count_after old times

-- of the hours that have a count, each from `from` up to `to` was opened at least `low` and at most `high` times, and no other
pub record AreOpened (from to low high : ℕ) (old new : List ℕ) : Type 0 where
  pub size : length new ≡ length old
  pub within : (h : ℕ) → h < length old → from ≤ h → h < to → IsOpened low high (slice_index old h) (slice_index new h)
  pub outside : (h : ℕ) → (h < from) ⊎ (to ≤ h) → slice_index new h ≡ slice_index old h

-- an error that isn't out of memory names a row of the hour
abbrev pub NamesRowOf : ℕ → ForwardError → Type 0
NamesRowOf hour (stop.Contradiction row) = row.at / 36000 ≡ hour
NamesRowOf hour stop.Memory = Unit {0}

-- on the way from the hour `first` to a row at which the log contradicts itself, each hour was opened once, the row's among them, and no other
abbrev pub OpensToRow : ℕ → List ℕ → List ℕ → ForwardError → Type 0
OpensToRow first old new (stop.Contradiction row) = AreOpened first (row.at / 36000 + 1) 1 1 old new
OpensToRow first old new stop.Memory = Unit {0}

-- an edit that is made opens each hour that moves once to three times, and no other. One that contradicts opens each hour from the first one that it touches to that of the row once, and no other. One that is refused otherwise opens none, but where memory is wanting
unfoldable pub OpensBy : Change → List ℕ → List ℕ → Result Applied EditError → Type 0
OpensBy change old new (Ok moved) = AreOpened moved.from moved.to 1 3 old new
OpensBy change old new (Err (Contradiction row)) = (first : ℕ) × (last : ℕ) × Touches change first last × AreOpened first (row.at / 36000 + 1) 1 1 old new
OpensBy change old new (Err Memory) = Unit {0}
OpensBy change old new (Err e) = new ≡ old

-- ---- where numbers wait: each of them costs one opening that is still to come

-- how often an edit may open an hour: once less where the numbers of its hours wait
abbrev pub most_opens : Bool → ℕ
most_opens may_wait = if may_wait then 2 else 3

-- 1 for an hour whose numbers wait, else 0
abbrev pub still : List Bool → ℕ → ℕ
still waiting hour = one_if (waits waiting hour)

-- by its counts before and after, an hour was opened at least `low` times, and at most `high` times with the opening that its numbers still cost, but for one where they waited before
pub record IsOpenedFor (low high before after old new : ℕ) : Type 0 where
  pub times : ℕ
  pub least : low ≤ times
  pub most : times + after ≤ high + before
  pub count : new ≡ count_after old times

-- of the hours that have a count, each from `from` up to `to` was opened once to three times, and no other; so also with the opening that its numbers still cost, but for one where they waited before
pub record AreOpenedFor (from to : ℕ) (waiting marked : List Bool) (old new : List ℕ) : Type 0 where
  pub size : length new ≡ length old
  pub opened : (h : ℕ) → h < length old → from ≤ h → h < to → IsOpened 1 3 (slice_index old h) (slice_index new h)
  pub within : (h : ℕ) → h < length old → from ≤ h → h < to → IsOpenedFor 1 3 (still waiting h) (still marked h) (slice_index old h) (slice_index new h)
  pub outside : (h : ℕ) → (h < from) ⊎ (to ≤ h) → (slice_index new h ≡ slice_index old h) × (waits marked h ≡ waits waiting h)

-- by its counts before and after, an hour was opened once where its numbers waited before and don't after it, and else not at all
pub record IsSettled (before after old new : ℕ) : Type 0 where
  pub times : ℕ
  pub each : times + after ≡ before
  pub count : new ≡ count_after old times

-- so each hour that has a count
pub record AreOpenedOnce (waiting marked : List Bool) (old new : List ℕ) : Type 0 where
  pub size : length new ≡ length old
  pub each : (h : ℕ) → h < length old → IsSettled (still waiting h) (still marked h) (slice_index old h) (slice_index new h)

-- the same as `OpensBy`, where numbers may wait
unfoldable pub OpensFor : Change → List Bool → List Bool → List ℕ → List ℕ → Result Applied EditError → Type 0
OpensFor change waiting marked old new (Ok moved) = AreOpenedFor moved.from moved.to waiting marked old new
OpensFor change waiting marked old new (Err (Contradiction row)) = (marked ≡ waiting) × ((first : ℕ) × (last : ℕ) × Touches change first last × AreOpened first (row.at / 36000 + 1) 1 1 old new)
OpensFor change waiting marked old new (Err Memory) = Unit {0}
OpensFor change waiting marked old new (Err e) = (marked ≡ waiting) × (new ≡ old)
