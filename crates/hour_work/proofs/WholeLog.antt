-- The known rows of all hours, and what is listed of them.
use Rattle.std.proofs.Common.{◌≡◌, ◌∙◌, ℕ, zero, suc, ◌+◌, ◌-◌, ◌<◌, ◌≤◌, Bool, List, [], ◌∷◌, ◌++◌, Option, Some, None, length, refl, sym, ap, subst, arith}
use Rattle.std.specs.Prelude.{option_map}
use Rattle.std.proofs.lemmas.List.{append-nil, append_assoc, take_all}
use Rattle.sig_base.specs.HourRows.{Shown}
use Rattle.sig_base.specs.declared.values.Row.{Row}
use Rattle.board.specs.Moves.{RowsIn}
use Rattle.hour_store.specs.Store.{IsOfHour, IsStore, Store, held_at, is_known, known_rows, rows_of}
use Rattle.hour_sweep.specs.Rows.{known_rows as rows_known}
use Rattle.hour_sweep.specs.Hours.{AreOrdered, point}
use Rattle.hour_sweep.proofs.Orders.{filter_ordered, ordered-append, rise_ordered}
use Rattle.signal_log.specs.Points.{rows_or_none}
use Rattle.hour_work.specs.Rows.{earlier_rows, own_rows}
use Rattle.hour_work.specs.Measures.{over_hours}
use Rattle.hour_work.proofs.MeasureLaws.{earlier_more}

-- ---- order

held_ordered : (known : ℕ → Bool) (hour : ℕ) (o : Option Shown) → ((h : Shown) → o ≡ Some h → IsOfHour hour h) → AreOrdered (point hour) (point (hour + 1)) (rows_known known (rows_or_none (option_map (λ h. h.rows) o)))
held_ordered known hour None of = omega arith
held_ordered known hour (Some h) of =
    let end : point hour + 36000 ≡ point (hour + 1) = omega arith in
    let rows = rise_ordered (point hour) (point hour + 36000) h.rows (omega arith) (of h refl).rows_are.rise in
    filter_ordered known (point hour) (point (hour + 1)) (point hour) h.rows (omega arith) (subst (λ (t : ℕ). AreOrdered (point hour) t h.rows) end rows)

pub rows_of_order : (a b : ℕ) (rows : List Row) → AreOrdered a b rows → RowsIn a b rows
rows_of_order a b [] h = h
rows_of_order a b (x ∷ xs) h = (h.0, h.1, rows_of_order x.at b xs h.2)

-- an hour's known rows stand in order in the hour
pub own_ordered : (s : Store) (hour : ℕ) → IsStore s → AreOrdered (point hour) (point (hour + 1)) (own_rows s hour)
own_ordered s hour is = held_ordered (is_known s) hour (held_at s hour) (is.in_place hour)

pub more_rows : (s : Store) (hour : ℕ) → hour < length s.hours → earlier_rows s (suc hour) ≡ earlier_rows s hour ++ own_rows s hour
more_rows s hour lt = let next : suc hour ≡ hour + 1 = omega arith in ap (λ k. earlier_rows s k) next ∙ earlier_more s hour lt

-- the known rows before an hour stand in order
pub earlier_ordered : (s : Store) (hour : ℕ) → IsStore s → hour ≤ length s.hours → AreOrdered 0 (point hour) (earlier_rows s hour)
earlier_ordered s zero is le = omega arith
earlier_ordered s (suc n) is le =
    let next : n + 1 ≡ suc n = omega arith in
    let both = ordered-append 0 (point n) (point (n + 1)) (earlier_rows s n) (own_rows s n) (earlier_ordered s n is (omega arith)) (own_ordered s n is) in
    subst (λ rs. AreOrdered 0 (point (suc n)) rs) (sym (more_rows s n (omega arith))) (subst (λ k. AreOrdered 0 (point k) (earlier_rows s n ++ own_rows s n)) next both)

-- the known rows of the d hours from hour k on
record IsBetween (s : Store) (k d : ℕ) : Type 0 where
  pub rows : List Row
  pub joined : earlier_rows s (k + d) ≡ earlier_rows s k ++ rows
  pub order : AreOrdered (point k) (point (k + d)) rows

rows_between : (s : Store) (k d : ℕ) → IsStore s → k + d ≤ length s.hours → IsBetween s k d
rows_between s k zero is le =
    let same : k + 0 ≡ k = omega arith in
    record {
      rows = [];
      joined = ap (λ j. earlier_rows s j) same ∙ sym (append-nil (earlier_rows s k));
      order = omega arith;
    }
rows_between s k (suc d) is le =
    let first = rows_between s k d is (omega arith) in
    let next : k + suc d ≡ k + d + 1 = omega arith in
    let own = own_rows s (k + d) in
    let both = ordered-append (point k) (point (k + d)) (point (k + d + 1)) first.rows own first.order (own_ordered s (k + d) is) in
    record {
      rows = first.rows ++ own;
      joined = ap (λ j. earlier_rows s j) next ∙ (earlier_more s (k + d) (omega arith) ∙ (ap (λ rs. rs ++ own) first.joined ∙ append_assoc (earlier_rows s k) first.rows own));
      order = subst (λ j. AreOrdered (point k) (point j) (first.rows ++ own)) (sym next) both;
    }

-- ---- the whole log

pub all_rows : (s : Store) → earlier_rows s (length s.hours) ≡ known_rows s
all_rows s = ap (λ hours. rows_known (is_known s) (rows_of hours)) (take_all (length s.hours) s.hours (omega arith))

-- the known rows are those before a point, and those from it on
pub record IsSplit (s : Store) (k : ℕ) : Type 0 where
  pub rows : List Row
  pub parts : known_rows s ≡ earlier_rows s k ++ rows
  pub order : AreOrdered (point k) (point (length s.hours)) rows

pub rows_after : (s : Store) (k : ℕ) → IsStore s → k ≤ length s.hours → IsSplit s k
rows_after s k is le =
    let count = length s.hours - k in
    let rest = rows_between s k count is (omega arith) in
    let end : k + count ≡ length s.hours = omega arith in
    record {
      rows = rest.rows;
      parts = sym (all_rows s) ∙ (ap (λ j. earlier_rows s j) (sym end) ∙ rest.joined);
      order = subst (λ j. AreOrdered (point k) (point j) rest.rows) end rest.order;
    }

-- the known rows are those before an hour, its own, and those of the hours after it
pub record IsWithin (s : Store) (hour : ℕ) : Type 0 where
  pub later : List Row
  pub parts : known_rows s ≡ earlier_rows s hour ++ (own_rows s hour ++ later)
  pub order : AreOrdered (point (hour + 1)) (point (length s.hours)) later

pub hour_within : (s : Store) (hour : ℕ) → IsStore s → hour < length s.hours → IsWithin s hour
hour_within s hour is lt =
    let rest = rows_after s (hour + 1) is (omega arith) in
    record {
      later = rest.rows;
      parts = rest.parts ∙ (ap (λ rs. rs ++ rest.rows) (earlier_more s hour lt) ∙ append_assoc (earlier_rows s hour) (own_rows s hour) rest.rows);
      order = rest.order;
    }

-- ---- lists

-- the list of two parts of a log is that of the first, and then that of the second
abbrev pub Adds : {X : Type 0} → (List Row → List Row → List X) → Type 0
Adds from = (t b : ℕ) (before rows : List Row) → AreOrdered 0 t before → AreOrdered t b rows → from [] (before ++ rows) ≡ from [] before ++ from before rows

over_first : {X : Type 0} (from : List Row → List Row → List X) (s : Store) (n : ℕ) → IsStore s → from [] [] ≡ [] → Adds from → n ≤ length s.hours → over_hours (λ hour. from (earlier_rows s hour) (own_rows s hour)) n ≡ from [] (earlier_rows s n)
over_first from s zero is none adds le = sym none
over_first from s (suc n) is none adds le =
    let own = from (earlier_rows s n) (own_rows s n) in
    ap (λ zs. zs ++ own) (over_first from s n is none adds (omega arith))
    ∙ (sym (adds (point n) (point (n + 1)) (earlier_rows s n) (own_rows s n) (earlier_ordered s n is (omega arith)) (own_ordered s n is))
    ∙ ap (λ rs. from [] rs) (sym (more_rows s n (omega arith))))

-- so the lists of all hours make up that of the whole log
pub over_log : {X : Type 0} (from : List Row → List Row → List X) (s : Store) → IsStore s → from [] [] ≡ [] → Adds from → over_hours (λ hour. from (earlier_rows s hour) (own_rows s hour)) (length s.hours) ≡ from [] (known_rows s)
over_log from s is none adds = over_first from s (length s.hours) is none adds (omega arith) ∙ ap (λ rs. from [] rs) (all_rows s)
