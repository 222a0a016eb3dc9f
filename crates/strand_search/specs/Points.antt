-- One channel's states at the hour points of a window.
use Rattle.std.specs.Prelude.{◌≡◌, ℕ, ◌+◌, ◌≤◌, ℤ, List, [], ◌∷◌, Option, length, slice_index_or}
use Rattle.span_set.specs.declared.set.Span.{Span}
use Rattle.channel_tables.specs.declared.spec.Spec.{Spec}
use Rattle.hour_store.specs.Store.{IsStore, Store}
use Rattle.strand_search.specs.declared.search.Points.{Points}
use Rattle.signal_log.specs.Log.{HasHistory, Log, log_of}
use Rattle.signal_log.specs.Points.{AreAheadsAt, ArePastsAt}

-- what the store tells of the channel alone
abbrev pub log_alone : Spec → Store → Log
log_alone d s = log_of (d ∷ []) s

-- the states at each of the points from 0 up to n, with that one
abbrev pub ArePastsUpTo : Spec → Store → ℕ → List (List (List (List Span))) → Type 0
ArePastsUpTo d s n pasts = (length pasts ≡ n + 1) × ((k : ℕ) → k ≤ n → ArePastsAt (log_alone d s) k (slice_index_or pasts k []))

-- the states that can be completed at the n + 1 last points, the window's end first
abbrev pub AreAheadsBack : Spec → Store → ℕ → List (List (List (Option ℤ))) → Type 0
AreAheadsBack d s n aheads = (length aheads ≡ n + 1) × ((i k : ℕ) → i ≤ n → i + k ≡ length s.hours → AreAheadsAt (log_alone d s) k (slice_index_or aheads i []))

-- no history of the channel agrees
abbrev pub HasNone : Spec → Store → Type 0
HasNone d s = HasHistory (log_alone d s) → ⊥

-- the channel's states among those at a point
abbrev pub past_at : List (List (List (List Span))) → ℕ → List (List Span)
past_at pasts k = slice_index_or (slice_index_or pasts k []) 0 []

-- the states at the points of the store's window up to that before the hour, and those that can be completed at the points from the window's end back to that after it
pub record ArePointsAround (d : Spec) (s : Store) (hour : ℕ) (points : Points) : Type 0 where
  pub is_store : IsStore s
  pub pasts : ArePastsUpTo d s hour points.pasts.items
  pub aheads : (n : ℕ) × (n + hour + 1 ≡ length s.hours) × AreAheadsBack d s n points.aheads.items
