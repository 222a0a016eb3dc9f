-- An hour of a store between what is kept at the points about it.
use Rattle.std.proofs.Common.{◌≡◌, ℕ, ◌+◌, ◌<◌, ℤ, List, Option, length, refl, sym, subst, arith}
use Rattle.sig_base.specs.declared.values.Row.{Row}
use Rattle.span_set.specs.declared.set.Span.{Span}
use Rattle.hour_store.specs.Store.{IsStore, Store, rows_at}
use Rattle.ring_config.specs.Settings.{Settings}
use Rattle.signal_log.specs.Log.{HasHistory, log_of}
use Rattle.signal_log.specs.Points.{HasHour}
use Rattle.signal_log.proofs.Stored.{known_hour}
use Rattle.signal_log.proofs.Suiting.{all_count}
use Rattle.hour_work.specs.Points.{Carried, IsCarryAt, IsFutureAt}
use Rattle.hour_work.specs.Reports.{IsHourBetween}

has_own : (s : Store) (hour : ℕ) → IsStore s → hour < length s.hours → HasHour s hour (rows_at s hour) s.blanks
has_own s hour is lt = record { is_store = is; within = lt; held = refl; known = λ t low high. sym (known_hour s hour t (rows_at s hour) refl low (omega arith)) }

-- the hour as it is opened
pub has_opened : (s : Store) (hour : ℕ) (rows : Option (List Row)) (blanks : List Span) → IsStore s → hour < length s.hours → rows ≡ rows_at s hour → blanks ≡ s.blanks → HasHour s hour rows blanks
has_opened s hour rows blanks is lt e q = subst (λ (o : Option (List Row)). HasHour s hour o blanks) (sym e) (subst (λ (bs : List Span). HasHour s hour (rows_at s hour) bs) (sym q) (has_own s hour is lt))

-- between what is kept before it and after it
pub between : (c : Settings) (s : Store) (hour : ℕ) (before : Carried) (after : List (List (Option ℤ))) → IsStore s → hour < length s.hours → IsCarryAt c s hour before → IsFutureAt c s (hour + 1) after → HasHistory (log_of c.specs s) → IsHourBetween c s hour before (rows_at s hour) s.blanks after
between c s hour before after is lt carry future some = record {
  has_hour = has_own s hour is lt;
  is_before = carry;
  is_after = all_count (log_of c.specs s) (hour + 1) after future;
  history = some;
}

-- the same of what is opened
pub opened_between : (c : Settings) (s : Store) (hour : ℕ) (before : Carried) (rows : Option (List Row)) (blanks : List Span) (after : List (List (Option ℤ))) → rows ≡ rows_at s hour → blanks ≡ s.blanks → IsHourBetween c s hour before (rows_at s hour) s.blanks after → IsHourBetween c s hour before rows blanks after
opened_between c s hour before rows blanks after e q is = subst (λ (o : Option (List Row)). IsHourBetween c s hour before o blanks after) (sym e) (subst (λ (bs : List Span). IsHourBetween c s hour before (rows_at s hour) bs after) (sym q) is)
