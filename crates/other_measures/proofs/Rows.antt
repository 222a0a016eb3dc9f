-- The coordination's rows, counted row by row.
use Rattle.std.proofs.Common.{◌≡◌, ℕ, ◌+◌, ◌<◌, Bool, true, false, cond, eqb, List, [], ◌∷◌, ◌++◌, ap, sym, ◌∙◌, arith}
use Rattle.std.specs.Prelude.{count_by}
use Rattle.std.proofs.lemmas.List.Sums.{sum_by_push}
use Rattle.std.proofs.lemmas.List.Elements.{All-nil}
use Rattle.sig_base.specs.declared.values.Row.{Row}
use Rattle.gap_map.specs.declared.stretch.Stretch.{Stretch}
use Rattle.hour_sweep.specs.Sums.{capped}
use Rattle.hour_sweep.specs.Rows.{known_rows}
use Rattle.hour_sweep.specs.Hours.{IsHour, point}
use Rattle.hour_sweep.specs.Passes.{swept, AreLaws}
use Rattle.hour_sweep.proofs.Orders.{rise_ordered}
use Rattle.hour_sweep.proofs.Hour.{hour_kept}
use Rattle.hour_sweep.proofs.SumCommon.{capped_zero}
use Rattle.other_measures.specs.declared.sums.CoordSum.{CoordSum}
use Rattle.other_measures.specs.Hours.{HasRows, code_after, coord_after, no_coordination, rows_with}

one_more : (v : Bool) (n m : ℕ) → n ≡ capped m → cond v (capped (n + 1)) n ≡ capped (m + cond v 1 0)
unfolding capped
one_more true n m e = omega (arith, e)
one_more false n m e = omega (arith, e)

code_counted : (code : ℕ) (before : List Row) (x : Row) (n : ℕ) → n ≡ rows_with code before → code_after code n x ≡ rows_with code (before ++ x ∷ [])
code_counted code before x n e =
    one_more (eqb x.code code) n (count_by (λ (z : Row). eqb z.code code) before) e
    ∙ ap (λ m. capped m) (sym (sum_by_push (λ (z : Row). cond (eqb z.code code) 1 0) before x))

-- the rows before a tenth are counted, whatever is left
laws : (known : ℕ → Bool) → AreLaws known coord_after (λ s. s) (λ t before left s. HasRows before s)
laws known = record {
  on = λ a b before left s le kn i. i;
  row = λ before x left s low i. record {
    patterns = code_counted 131 before x s.patterns i.patterns;
    cycle_changes = code_counted 132 before x s.cycle_changes i.cycle_changes;
    yields = code_counted 151 before x s.yields i.yields;
    begins = code_counted 152 before x s.begins i.begins;
  };
  gap = λ a b before left s lt kn low i. i;
}

none_counted : HasRows [] no_coordination
none_counted = record { patterns = capped_zero; cycle_changes = capped_zero; yields = capped_zero; begins = capped_zero }

pub rows_counted : (known : ℕ → Bool) (hour : ℕ) (rows : List Row) (ss : List Stretch) (start end : CoordSum) → start ≡ no_coordination → end ≡ swept coord_after (λ s. s) ss rows start → IsHour known hour rows ss → HasRows (known_rows known rows) end
rows_counted known hour rows ss start end es e h =
    let or = rise_ordered (point hour) (point hour + 36000) rows (omega arith) h.are_rows.rise in
    rw (e, es) (hour_kept known coord_after (λ s. s) (λ t before left s. HasRows before s) (laws known) ss (point hour) (point hour + 36000) [] rows no_coordination h.are_stretches or (All-nil (λ z. z.at < point hour)) none_counted)
