-- What is kept of each hour holds of every store that has the hour so; so it gives the report.
use Rattle.std.proofs.Common.{◌≡◌, ◌∙◌, ℕ, zero, suc, ◌+◌, ◌-◌, ◌<◌, ◌≤◌, Bool, List, length, get_or, [], true, Option, is_some, refl, sym, ap, subst, arith}
use Rattle.sig_base.specs.declared.values.Row.{Row}
use Rattle.span_set.specs.declared.set.Span.{Span}
use Rattle.gap_map.specs.Stretches.{known_in}
use Rattle.hour_store.specs.Store.{IsStore, Store, rows_at}
use Rattle.ring_config.specs.Settings.{Settings}
use Rattle.signal_log.specs.Log.{HasHistory, log_of}
use Rattle.signal_log.specs.Points.{HasHour}
use Rattle.signal_log.proofs.Stored.{known_hour}
use Rattle.signal_log.proofs.Suiting.{all_count}
use Rattle.strand_search.proofs.Told.{has}
use Rattle.hour_work.specs.Numbers.{Numbers}
use Rattle.hour_work.specs.Points.{Carried, IsCarryAt, IsFutureAt}
use Rattle.hour_work.specs.Reports.{IsHourBetween, IsReport}
use Rattle.session.specs.Links.{Ahead, AllSettled, AreCarries, AreFutures, AreKept, Backs, BacksAt, Leads, LeadsAt}

pub has_hour : (s : Store) (hour : ℕ) (rows : Option (List Row)) (blanks : List Span) → IsStore s → hour < length s.hours → rows ≡ rows_at s hour → blanks ≡ s.blanks → HasHour s hour rows blanks
has_hour s hour rows blanks is lt e b = record {
  is_store = is;
  within = lt;
  held = sym e;
  known = λ t low high. ap (λ (bs : List Span). known_in (is_some rows) bs t) b ∙ sym (known_hour s hour t rows (sym e) low (omega arith));
}

-- ---- from point to point

pub carry_up : (c : Settings) (s : Store) (xs : List Carried) (n : ℕ) → IsStore s → n ≤ length s.hours → ((d : Carried) (r : Store) → IsCarryAt c r 0 (get_or xs 0 d)) → ((k : ℕ) → k < n → LeadsAt c s xs k) → (k : ℕ) (d : Carried) → k ≤ n → IsCarryAt c s k (get_or xs k d)
carry_up c s xs n is within start leads zero d le = start d s
carry_up c s xs n is within start leads (suc k) d le =
    let e : k + 1 ≡ suc k = omega arith in
    subst (λ (j : ℕ). IsCarryAt c s j (get_or xs j d)) e ((leads k (omega arith) d).stays s (has s k is (omega arith)) (carry_up c s xs n is within start leads k d (omega arith)))

pub future_down : (c : Settings) (s : Store) (xs : List Ahead) (low : ℕ) → IsStore s → ((d : Ahead) (r : Store) → length r.hours ≡ length s.hours → IsFutureAt c r (length s.hours) (get_or xs (length s.hours) d)) → ((k : ℕ) → low ≤ k → k < length s.hours → BacksAt c s xs k) → (n k : ℕ) (d : Ahead) → low ≤ k → k + n ≡ length s.hours → IsFutureAt c s k (get_or xs k d)
future_down c s xs low is end backs zero k d from e =
    let at : length s.hours ≡ k = omega arith in
    subst (λ (j : ℕ). IsFutureAt c s j (get_or xs j d)) at (end d s refl)
future_down c s xs low is end backs (suc n) k d from e = (backs k from (omega arith) d).stays s (has s k is (omega arith)) (future_down c s xs low is end backs n (k + 1) d (omega arith) (omega arith))

pub carry_kept : (c : Settings) (s : Store) (xs : List Carried) → IsStore s → AreCarries c s xs → (k : ℕ) (d : Carried) → k ≤ length s.hours → IsCarryAt c s k (get_or xs k d)
carry_kept c s xs is are = carry_up c s xs (length s.hours) is (omega arith) are.start are.leads

pub future_kept : (c : Settings) (s : Store) (xs : List Ahead) → IsStore s → AreFutures c s xs → (k : ℕ) (d : Ahead) → k ≤ length s.hours → IsFutureAt c s k (get_or xs k d)
future_kept c s xs is are k d le = future_down c s xs 0 is are.end (λ j low. are.backs j) (length s.hours - k) k d (omega arith) (omega arith)

-- the same of a value that stands at the point
pub carry_is : (c : Settings) (s : Store) (xs : List Carried) (k : ℕ) (x : Carried) → IsStore s → AreCarries c s xs → k ≤ length s.hours → x ≡ get_or xs k x → IsCarryAt c s k x
carry_is c s xs k x is are le e = subst (λ (v : Carried). IsCarryAt c s k v) (sym e) (carry_kept c s xs is are k x le)

pub future_is : (c : Settings) (s : Store) (xs : List Ahead) (k : ℕ) (x : Ahead) → IsStore s → AreFutures c s xs → k ≤ length s.hours → x ≡ get_or xs k x → IsFutureAt c s k x
future_is c s xs k x is are le e = subst (λ (v : Ahead). IsFutureAt c s k v) (sym e) (future_kept c s xs is are k x le)

pub between_kept : (c : Settings) (s : Store) (xs : List Carried) (ys : List Ahead) → IsStore s → AreCarries c s xs → AreFutures c s ys → HasHistory (log_of c.specs s) → (k : ℕ) (d : Carried) (e : Ahead) → k < length s.hours → IsHourBetween c s k (get_or xs k d) (rows_at s k) s.blanks (get_or ys (k + 1) e)
between_kept c s xs ys is forth back some k d e lt = record { has_hour = has s k is lt; is_before = carry_kept c s xs is forth k d (omega arith); is_after = all_count (log_of c.specs s) (k + 1) (get_or ys (k + 1) e) (future_kept c s ys is back (k + 1) e (omega arith)); history = some }

-- the numbers that are kept are the store's report, where none wait
pub report_kept : (c : Settings) (s : Store) (waiting : List Bool) (xs : List Carried) (ys : List Ahead) (ps : List Numbers) → IsStore s → AreKept c s waiting xs ys ps → AllSettled waiting → HasHistory (log_of c.specs s) → IsReport c s ps
report_kept c s waiting xs ys ps is kept settled some =
    let d : Carried = record { pasts = []; known = true; cuts = []; closing = []; splits = []; others = record { peds = []; preempts = [] }; arrivals = record { crossings = []; flags = [] } } in
    record {
      size = kept.size;
      each = λ k f lt. kept.counts k lt (settled k) d [] f s (between_kept c s xs ys is kept.forth kept.back some k d [] lt);
    }

-- ---- the same values, the same links

pub leads_as : (c : Settings) (hour : ℕ) (rows : Option (List Row)) (blanks : List Span) (a a2 b b2 : Carried) → a2 ≡ a → b2 ≡ b → Leads c hour rows blanks a b → Leads c hour rows blanks a2 b2
leads_as c hour rows blanks a a2 b b2 e q p = subst (λ (v : Carried). Leads c hour rows blanks v b2) (sym e) (subst (λ (v : Carried). Leads c hour rows blanks a v) (sym q) p)

pub backs_as : (c : Settings) (hour : ℕ) (rows : Option (List Row)) (blanks : List Span) (a a2 b b2 : Ahead) → a2 ≡ a → b2 ≡ b → Backs c hour rows blanks a b → Backs c hour rows blanks a2 b2
backs_as c hour rows blanks a a2 b b2 e q p = subst (λ (v : Ahead). Backs c hour rows blanks v b2) (sym e) (subst (λ (v : Ahead). Backs c hour rows blanks a v) (sym q) p)

pub leads_same : (c : Settings) (s : Store) (xs ys : List Carried) (k : ℕ) → ((d : Carried) → get_or ys k d ≡ get_or xs k d) → ((d : Carried) → get_or ys (k + 1) d ≡ get_or xs (k + 1) d) → LeadsAt c s xs k → LeadsAt c s ys k
leads_same c s xs ys k a b p d = leads_as c k (rows_at s k) s.blanks (get_or xs k d) (get_or ys k d) (get_or xs (k + 1) d) (get_or ys (k + 1) d) (a d) (b d) (p d)

pub backs_same : (c : Settings) (s : Store) (xs ys : List Ahead) (k : ℕ) → ((d : Ahead) → get_or ys k d ≡ get_or xs k d) → ((d : Ahead) → get_or ys (k + 1) d ≡ get_or xs (k + 1) d) → BacksAt c s xs k → BacksAt c s ys k
backs_same c s xs ys k a b p d = backs_as c k (rows_at s k) s.blanks (get_or xs (k + 1) d) (get_or ys (k + 1) d) (get_or xs k d) (get_or ys k d) (b d) (a d) (p d)
