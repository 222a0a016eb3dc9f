-- What a measure owes for one number gives the hour for all numbers.
use Rattle.std.proofs.Common.{◌≡◌, ℕ, ◌<◌, ◌≤◌, Bool, true, false, cond, List, [], ◌∷◌, ◌++◌, Option, Some, None, map, get_or, set, refl, ap, sym, ◌∙◌, append_assoc, arith, inl, inr}
use Rattle.std.specs.Prelude.{All, option_map, option_to_list}
use Rattle.std.specs.List.{cons_option}
use Rattle.std.proofs.lemmas.List.{append-nil}
use Rattle.std.proofs.lemmas.List.Elements.{All-weaker}
use Rattle.std.proofs.lemmas.Bool.{cases_Bool}
use Rattle.sig_base.specs.declared.values.Row.{Row}
use Rattle.gap_map.specs.declared.stretch.Stretch.{Stretch}
use Rattle.gap_map.specs.Stretches.{AreStretches}
use Rattle.hour_sweep.specs.Rows.{known_rows}
use Rattle.hour_sweep.specs.Hours.{AreOrdered}
use Rattle.hour_sweep.specs.Passes.{swept, AreLaws}
use Rattle.hour_sweep.specs.Numbers.{Tracking, tracking_after, tracking_cleared, table, given, outs_from, AreTracks, IsTracked}
use Rattle.hour_sweep.proofs.Known.{since_known}
use Rattle.hour_sweep.proofs.Hour.{hour_kept}
use Rattle.hour_sweep.proofs.Tables.{table_same, table_map, table_at, table_none, table_set}

put_given : {O : Type 0} (o : Option O) (outs rest : List O) → (outs ++ option_to_list o) ++ rest ≡ outs ++ cons_option o rest
put_given None outs rest = ap (λ zs. zs ++ rest) (append-nil outs)
put_given (Some x) outs rest = append_assoc outs (x ∷ []) rest

module _ {A O : Type 0} (known : ℕ → Bool) (of : ℕ → List Row → ℕ → A) (step : Row → A → A) (clear : A → A) (out_at : ℕ → List Row → Row → List Row → Option O) (out_by : Row → A → Option O) (t : AreTracks known of step clear out_at out_by) (has : ℕ → Bool) (n : ℕ) (room : (p : ℕ) → has p ≡ true → p < n) where
  pub record IsAt (all : List O) (a : ℕ) (before left : List Row) (s : Tracking A O) : Type 0 where
    pub parts_are : s.parts ≡ table has n (of a before)
    pub outs_are : s.outs ++ outs_from out_at has before left ≡ all

  row_found : (all : List O) (before : List Row) (x : Row) (left : List Row) (s : Tracking A O) → All (λ z. z.at ≤ x.at) before → IsAt all x.at before (x ∷ left) s → has x.param ≡ true → IsAt all x.at (before ++ x ∷ []) left (tracking_after step out_by s x)
  row_found all before x left s low i here =
      let part = of x.at before x.param in
      let at : get_or s.parts x.param None ≡ Some part = ap (λ ps. get_or ps x.param None) i.parts_are ∙ table_at has n x.param (of x.at before) here (room x.param here) in
      let out : given out_at has before x left ≡ out_by x part = ap (λ v. cond v (out_at x.param before x left) None) here ∙ t.now before x left low in
      rw at (record {
        parts_are = ap (λ ps. set ps x.param (Some (step x part))) i.parts_are ∙ table_set has n x.param (of x.at before) (of x.at (before ++ x ∷ [])) (step x part) here (room x.param here) (sym (t.push before x low)) (λ q ne. sym (t.other q before x low (λ e. ne (sym e))));
        outs_are = put_given (out_by x part) s.outs (outs_from out_at has (before ++ x ∷ []) left) ∙ ap (λ o. s.outs ++ cons_option o (outs_from out_at has (before ++ x ∷ []) left)) (sym out) ∙ i.outs_are;
      })

  row_passed : (all : List O) (before : List Row) (x : Row) (left : List Row) (s : Tracking A O) → All (λ z. z.at ≤ x.at) before → IsAt all x.at before (x ∷ left) s → has x.param ≡ false → IsAt all x.at (before ++ x ∷ []) left (tracking_after step out_by s x)
  row_passed all before x left s low i none =
      let at : get_or s.parts x.param None ≡ None = ap (λ ps. get_or ps x.param None) i.parts_are ∙ table_none has n x.param (of x.at before) none in
      let out : given out_at has before x left ≡ None = ap (λ v. cond v (out_at x.param before x left) None) none in
      rw at (record {
        parts_are = i.parts_are ∙ table_same has n (of x.at before) (of x.at (before ++ x ∷ [])) (λ p h. sym (t.other p before x low (λ e. let both : has p ≡ false = rw (← e) none in cc)));
        outs_are = ap (λ o. s.outs ++ cons_option o (outs_from out_at has (before ++ x ∷ []) left)) (sym out) ∙ i.outs_are;
      })

  laws : (all : List O) → AreLaws known (tracking_after step out_by) (tracking_cleared clear) (IsAt all)
  laws all = record {
    on = λ a b before left s le kn i. record { parts_are = i.parts_are ∙ table_same has n (of a before) (of b before) (λ p h. t.on a b p before (sym (since_known known a b le kn))); outs_are = i.outs_are };
    row = λ before x left s low i. elim (cases_Bool (has x.param)) [ inl e ↦ row_found all before x left s low i e | inr e ↦ row_passed all before x left s low i e ];
    gap = λ a b before left s lt kn low i. record {
      parts_are = ap (λ ps. map (option_map clear) ps) i.parts_are ∙ table_map clear has n (of a before) ∙ table_same has n (λ p. clear (of a before p)) (of b before) (λ p h. sym (t.lost a a b p before (All-weaker (λ z. z.at < a) (λ z. z.at ≤ a) (λ z l. omega arith) before low) lt (kn a (omega arith) lt)));
      outs_are = i.outs_are;
    };
  }

  -- the hour, for all numbers
  pub hour_tracked : (before : List Row) (from to : ℕ) (rows : List Row) (ss : List Stretch) (carry : List (Option A)) (end : Tracking A O) → end ≡ swept (tracking_after step out_by) (tracking_cleared clear) ss rows (record { parts = carry; outs = [] }) → AreStretches known from to ss → AreOrdered from to rows → All (λ z. z.at < from) before → carry ≡ table has n (of from before) → IsTracked known of out_at has n before rows to end.outs end.parts
  hour_tracked before from to rows ss carry end e st or low c =
      let all = outs_from out_at has before (known_rows known rows) in
      let first : Tracking A O = record { parts = carry; outs = [] } in
      let last = swept (tracking_after step out_by) (tracking_cleared clear) ss rows first in
      let at_end = hour_kept known (tracking_after step out_by) (tracking_cleared clear) (IsAt all) (laws all) ss from to before rows first st or low (record { parts_are = c; outs_are = refl }) in
      rw e (record { outs_are = sym (append-nil last.outs) ∙ at_end.outs_are; parts_are = at_end.parts_are })
