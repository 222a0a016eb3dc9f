-- What an edit that isn't refused makes of a store.
use Rattle.std.specs.Prelude.{◌≡◌, ◌≢◌, ◌↔◌, ◌+◌, ◌-◌, ◌*◌, ◌<◌, ◌≤◌, ℕ, ℤ, pos, ◌<ℤ◌, ◌≤ℤ◌, Bool, true, false, List, length, Option, Some, None, is_some, Ok}
use Rattle.sig_base.specs.HourRows.{Shown}
use Rattle.span_set.specs.declared.set.Span.{Span}
use Rattle.span_set.specs.Spans.{AreRanges}
use Rattle.hour_store.specs.Store.{IsStore, Store, count_in, held_at, rows_held}
use Rattle.session.specs.Edits.{Change, load, replace, withdraw, blank, unblank, step_of}
use Rattle.session.specs.Ranges.{With, Without}

-- something is held of the hour
abbrev pub is_held : Store → ℕ → Bool
is_held s hour = is_some (held_at s hour)

-- how many rows are held once these are what is held of their hour
abbrev pub rows_with : Store → Shown → ℕ
rows_with s r = (rows_held s + length r.rows) - count_in (held_at s r.hour)

-- the tenths from `from` on and before `to` are tenths of the window, and there are some
abbrev pub IsRange : Store → ℤ → ℤ → Type 0
IsRange s from to = (pos 0 ≤ℤ from) × (from <ℤ to) × (to ≤ℤ pos (36000 * length s.hours))

-- the edit isn't refused; ranges are in order and none touches the next, so that a set of tenths has one list of them
abbrev pub IsTaken : Store → Change → Type 0
IsTaken s (load r) = (r.hour < length s.hours) × (is_held s r.hour ≡ false) × (rows_with s r ≤ 20000000)
IsTaken s (replace r) = (r.hour < length s.hours) × (is_held s r.hour ≡ true) × (rows_with s r ≤ 20000000)
IsTaken s (withdraw hour) = (hour < length s.hours) × (is_held s hour ≡ true)
IsTaken s (blank from to) = IsRange s from to × ((ranges : List Span) × AreRanges ranges × With s.blanks from to ranges × (length ranges ≤ 10000))
IsTaken s (unblank from to) = IsRange s from to × ((ranges : List Span) × AreRanges ranges × Without s.blanks from to ranges × (length ranges ≤ 10000))

-- the second store has this of the hour and of each other hour what the first one has, and the same is blanked
pub record HasOf (s : Store) (hour : ℕ) (x : Option Shown) (t : Store) : Type 0 where
  pub hours : length t.hours ≡ length s.hours
  pub here : held_at t hour ≡ x
  pub elsewhere : (k : ℕ) → k ≢ hour → held_at t k ≡ held_at s k
  pub blanks : t.blanks ≡ s.blanks

-- the edit makes the second store of the first one
abbrev pub Makes : Store → Change → Store → Type 0
Makes s (load r) t = HasOf s r.hour (Some r) t
Makes s (replace r) t = HasOf s r.hour (Some r) t
Makes s (withdraw hour) t = HasOf s hour None t
Makes s (blank from to) t = (t.hours ≡ s.hours) × AreRanges t.blanks × With s.blanks from to t.blanks
Makes s (unblank from to) t = (t.hours ≡ s.hours) × AreRanges t.blanks × Without s.blanks from to t.blanks

-- an edit gives a store exactly where it isn't refused and this is the store that it makes
abbrev pub EditsMakeStores : Type 0
EditsMakeStores = (s t : Store) (change : Change) → IsStore s → (step_of s change ≡ Ok t) ↔ (IsTaken s change × Makes s change t)
