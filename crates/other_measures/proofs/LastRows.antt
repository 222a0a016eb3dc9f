-- What one more row, one more known tenth and one unknown tenth make of a last row.
use Rattle.std.proofs.Common.{◌≡◌, ℕ, ◌<◌, ◌≤◌, Bool, true, false, cond, List, [], ◌∷◌, ◌++◌, Option, Some, None, refl, arith}
use Rattle.std.specs.Prelude.{All, find}
use Rattle.std.specs.Option.{option_or}
use Rattle.std.proofs.lemmas.List.Folds.{find-append}
use Rattle.sig_base.specs.declared.values.Row.{Row}
use Rattle.hour_sweep.specs.Rows.{last_with, since, live}
use Rattle.hour_sweep.proofs.Places.{pushed_last, last_with-push, AllLast, last_with_all}
use Rattle.hour_sweep.proofs.Known.{live_here, live_same, live_lost}
use Rattle.other_measures.specs.declared.last_rows.LastRow.{LastRow}
use Rattle.other_measures.specs.LastRows.{last_row_in, last_row_of, last_row_after}

pushed_in : (l c : Bool) (w x : Row) (first : Option Row) → cond l (Some (record { row = w; first = option_or first (cond c (Some x) None) })) None ≡ last_row_after false c x (cond l (Some (record { row = w; first = first })) None)
pushed_in false false w x first = refl
pushed_in false true w x first = refl
pushed_in true false w x None = refl
pushed_in true false w x (Some z) = refl
pushed_in true true w x None = refl
pushed_in true true w x (Some z) = refl

none_after : (c : Bool) (x : Row) → None ≡ last_row_after false c x None
none_after true x = refl
none_after false x = refl

module _ (is_last is_first : Row → Bool) (known : ℕ → Bool) where
  row_here : (t : ℕ) (x : Row) → live known x.at t ≡ true → last_row_in is_first known t (Some (x, [])) ≡ Some (record { row = x; first = None })
  row_here t x l = rw l refl

  pushed : (t : ℕ) (b : Bool) (x : Row) (o : Option (Row × List Row)) → live known x.at t ≡ true → last_row_in is_first known t (pushed_last b x o) ≡ last_row_after b (is_first x) x (last_row_in is_first known t o)
  pushed t true x o l = row_here t x l
  pushed t false x None l = none_after (is_first x) x
  pushed t false x (Some f) l = rw (find-append is_first f.1 (x ∷ [])) (pushed_in (live known f.0.at t) (is_first x) f.0 x (find is_first f.1))

  pub last_row_push : (before : List Row) (x : Row) → last_row_of is_last is_first known x.at (before ++ x ∷ []) ≡ last_row_after (is_last x) (is_first x) x (last_row_of is_last is_first known x.at before)
  unfolding last_row_of
  last_row_push before x = rw (last_with-push is_last before x) (pushed x.at (is_last x) x (last_with is_last before) (live_here known x.at x.at (omega arith)))

  same_in : (t u : ℕ) (o : Option (Row × List Row)) → since known t ≡ since known u → last_row_in is_first known t o ≡ last_row_in is_first known u o
  same_in t u None e = refl
  same_in t u (Some f) e = rw (live_same known f.0.at t u e) refl

  pub last_row_same : (t u : ℕ) (before : List Row) → since known t ≡ since known u → last_row_of is_last is_first known t before ≡ last_row_of is_last is_first known u before
  unfolding last_row_of
  last_row_same t u before e = same_in t u (last_with is_last before) e

  lost_in : (k t : ℕ) (o : Option (Row × List Row)) → AllLast (λ x. x.at ≤ k) o → k < t → known k ≡ false → last_row_in is_first known t o ≡ None
  lost_in k t None h lt u = refl
  lost_in k t (Some f) h lt u = rw (live_lost known f.0.at k t h.0 lt u) refl

  pub last_row_lost : (k t : ℕ) (before : List Row) → All (λ x. x.at ≤ k) before → k < t → known k ≡ false → last_row_of is_last is_first known t before ≡ None
  unfolding last_row_of
  last_row_lost k t before h lt u = lost_in k t (last_with is_last before) (last_with_all (λ x. x.at ≤ k) is_last before h) lt u

-- a row of neither kind
pub row_passed : (a b : Bool) (x : Row) (o : Option LastRow) → a ≡ false → b ≡ false → last_row_after a b x o ≡ o
row_passed false false x o e f = refl
row_passed true b x o e f = absurd (cc)
row_passed false true x o e f = absurd (cc)
