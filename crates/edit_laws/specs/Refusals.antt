-- What an edit is refused for.
use Rattle.std.specs.Prelude.{◌≡◌, ◌⊎◌, ◌↔◌, ◌*◌, ◌<◌, ◌≤◌, ℤ, pos, ◌<ℤ◌, ◌≤ℤ◌, true, false, List, length, Err}
use Rattle.sig_base.specs.declared.values.EditError.{EditError}
use Rattle.sig_base.specs.declared.values.EditError.TheVariants.{OutOfWindow, AlreadyHeld, NotHeld, EmptyRange, TooManyRows, TooManyBlanks}
use Rattle.span_set.specs.declared.set.Span.{Span}
use Rattle.span_set.specs.Spans.{AreRanges}
use Rattle.hour_store.specs.Store.{IsStore, Store}
use Rattle.session.specs.Edits.{Change, load, replace, withdraw, blank, unblank, step_of}
use Rattle.session.specs.Ranges.{With, Without}
use Rattle.edit_laws.specs.Stores.{IsRange, is_held, rows_with}

-- a tenth from `from` to `to` isn't one of the window, nor its end
abbrev pub ReachesOut : Store → ℤ → ℤ → Type 0
ReachesOut s from to = (from <ℤ pos 0) ⊎ (pos (36000 * length s.hours) <ℤ to)

-- in the window, but `to` comes no later than `from`
abbrev pub IsEmptyRange : Store → ℤ → ℤ → Type 0
IsEmptyRange s from to = (pos 0 ≤ℤ from) × (to ≤ℤ from) × (to ≤ℤ pos (36000 * length s.hours))

-- this is the first reason to refuse the edit
abbrev pub IsRefused : Store → Change → EditError → Type 0
IsRefused s (load r) OutOfWindow = length s.hours ≤ r.hour
IsRefused s (load r) AlreadyHeld = (r.hour < length s.hours) × (is_held s r.hour ≡ true)
IsRefused s (load r) TooManyRows = (r.hour < length s.hours) × (is_held s r.hour ≡ false) × (20000000 < rows_with s r)
IsRefused s (replace r) OutOfWindow = length s.hours ≤ r.hour
IsRefused s (replace r) NotHeld = (r.hour < length s.hours) × (is_held s r.hour ≡ false)
IsRefused s (replace r) TooManyRows = (r.hour < length s.hours) × (is_held s r.hour ≡ true) × (20000000 < rows_with s r)
IsRefused s (withdraw hour) OutOfWindow = length s.hours ≤ hour
IsRefused s (withdraw hour) NotHeld = (hour < length s.hours) × (is_held s hour ≡ false)
IsRefused s (blank from to) OutOfWindow = ReachesOut s from to
IsRefused s (blank from to) EmptyRange = IsEmptyRange s from to
IsRefused s (blank from to) TooManyBlanks = IsRange s from to × ((ranges : List Span) × AreRanges ranges × With s.blanks from to ranges × (10000 < length ranges))
IsRefused s (unblank from to) OutOfWindow = ReachesOut s from to
IsRefused s (unblank from to) EmptyRange = IsEmptyRange s from to
IsRefused s (unblank from to) TooManyBlanks = IsRange s from to × ((ranges : List Span) × AreRanges ranges × Without s.blanks from to ranges × (10000 < length ranges))
IsRefused s _ _ = ⊥

-- an edit gives an error exactly where it is the first reason to refuse it
abbrev pub RefusalsInOrder : Type 0
RefusalsInOrder = (s : Store) (change : Change) (error : EditError) → IsStore s → (step_of s change ≡ Err error) ↔ IsRefused s change error
