-- How many services have which verdict.
use Rattle.std.proofs.Common.{◌≡◌, refl, ap, sym, ◌∙◌, ℕ, ◌+◌, ◌<◌, List, [], ◌∷◌, ◌++◌, length, take, get_or}
use Rattle.std.proofs.lemmas.List.{take_more}
use Rattle.sig_base.specs.declared.values.Frac.{Frac}
use Rattle.hour_sweep.proofs.Adding.{count-add}
use Rattle.stop_bar.specs.declared.windows.Windows.{Windows}
use Rattle.split_measures.specs.declared.failures.SplitSum.{SplitSum}
use Rattle.split_measures.specs.declared.verdict.SplitVerdict.{SplitVerdict}
use Rattle.split_measures.specs.declared.verdict.SplitVerdict.TheVariants.{Fail, Pass, Undecided, Open, Fault}
use Rattle.split_measures.specs.Failures.{both_sums, is_verdict, split_sum_of}
use Rattle.hour_sweep.specs.Sums.{one_if}
use Rattle.split_measures.specs.Verdicts.{verdict_by, verdicts_by}
use Rattle.split_measures.proofs.Ones.{count_one}

pub one_verdict : (v : SplitVerdict) (a b c d e : ℕ) → a ≡ one_if (is_verdict Fail v) → b ≡ one_if (is_verdict Pass v) → c ≡ one_if (is_verdict Undecided v) → d ≡ one_if (is_verdict Open v) → e ≡ one_if (is_verdict Fault v) → record { fail = a; pass = b; undecided = c; left_open = d; fault = e } ≡ split_sum_of (v ∷ [])
unfolding split_sum_of
one_verdict v a b c d e ea eb ec ed ee =
    rw (ea, eb, ec, ed, ee) (rw (
      count_one (is_verdict Fail) v,
      count_one (is_verdict Pass) v,
      count_one (is_verdict Undecided) v,
      count_one (is_verdict Open) v,
      count_one (is_verdict Fault) v,
    ) refl)

pub sums_append : (vs ws : List SplitVerdict) → split_sum_of (vs ++ ws) ≡ both_sums (split_sum_of vs) (split_sum_of ws)
unfolding split_sum_of
sums_append vs ws =
    rw (
      count-add (is_verdict Fail) vs ws,
      count-add (is_verdict Pass) vs ws,
      count-add (is_verdict Undecided) vs ws,
      count-add (is_verdict Open) vs ws,
      count-add (is_verdict Fault) vs ws,
    ) refl

verdicts_append : (high : Frac) (ws : List Windows) (w : Windows) → verdicts_by high (ws ++ w ∷ []) ≡ verdicts_by high ws ++ verdict_by high w ∷ []
verdicts_append high [] w = refl
verdicts_append high (v ∷ ws) w = ap (λ (x : List SplitVerdict). verdict_by high v ∷ x) (verdicts_append high ws w)

-- the sum of the first i and of one more
pub verdict_more : (high : Frac) (ws : List Windows) (i : ℕ) (d : Windows) (v : SplitVerdict) (sum one new : SplitSum) → i < length ws → v ≡ verdict_by high (get_or ws i d) → one ≡ split_sum_of (v ∷ []) → new ≡ both_sums sum one → sum ≡ split_sum_of (verdicts_by high (take i ws)) → new ≡ split_sum_of (verdicts_by high (take (i + 1) ws))
verdict_more high ws i d v sum one new lt ev eo en es =
    let w = get_or ws i d in
    let e : verdicts_by high (take (i + 1) ws) ≡ verdicts_by high (take i ws) ++ verdict_by high w ∷ [] = ap (λ (x : List Windows). verdicts_by high x) (take_more ws i d lt) ∙ verdicts_append high (take i ws) w in
    rw (en, es, eo, ev, e) (sym (sums_append (verdicts_by high (take i ws)) (verdict_by high w ∷ [])))
