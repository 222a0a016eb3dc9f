-- How many services are open.
use Rattle.std.proofs.Common.{◌≡◌, refl, ap, ℕ, suc, ◌+◌, ◌^◌, ◌<◌, false, cond, List, [], ◌∷◌, ◌++◌, length, sym, arith}
use Rattle.std.specs.Prelude.{count_by}
use Rattle.std.proofs.lemmas.List.Sums.{sum_by-cons}
use Rattle.hour_sweep.specs.Sums.{one_if}
use Rattle.service_cut.specs.declared.items.Service.{Service}
use Rattle.hour_sweep.proofs.Adding.{capped_small}
use Rattle.stop_bar.specs.declared.windows.Windows.{Windows}
use Rattle.stop_bar.specs.Windows.{services_of}
use Rattle.split_measures.specs.declared.failures.SplitSum.{SplitSum}
use Rattle.split_measures.specs.declared.verdict.SplitVerdict.{SplitVerdict}
use Rattle.split_measures.specs.declared.verdict.SplitVerdict.TheVariants.{Fail, Pass, Undecided, Open, Fault}
use Rattle.split_measures.specs.Failures.{both_sums, is_verdict, split_sum_of}
use Rattle.split_measures.specs.Hours.{opens_of}
use Rattle.split_measures.proofs.Failing.{sums_append}

pub all_open : (ss : List Service) → count_by (is_verdict Open) (opens_of ss) ≡ length ss
all_open [] = refl
all_open (s ∷ ss) =
    let c : count_by (is_verdict Open) (opens_of (s ∷ ss)) ≡ 1 + count_by (is_verdict Open) (opens_of ss) = sum_by-cons (λ (v : SplitVerdict). cond (is_verdict Open v) 1 0) Open (opens_of ss) in
    let rest = all_open ss in
    omega arith

pub none_else : (v : SplitVerdict) (ss : List Service) → is_verdict v Open ≡ false → count_by (is_verdict v) (opens_of ss) ≡ 0
none_else v [] e = refl
none_else v (s ∷ ss) e =
    let c : count_by (is_verdict v) (opens_of (s ∷ ss)) ≡ one_if (is_verdict v Open) + count_by (is_verdict v) (opens_of ss) = sum_by-cons (λ (w : SplitVerdict). cond (is_verdict v w) 1 0) Open (opens_of ss) in
    let z : one_if (is_verdict v Open) ≡ 0 = ap one_if e in
    let rest = none_else v ss e in
    omega (arith, z)

pub opens_are : (n : ℕ) (ss : List Service) → n < 2 ^ 64 → length ss ≡ n → record { fail = 0; pass = 0; undecided = 0; left_open = n; fault = 0 } ≡ split_sum_of (opens_of ss)
unfolding split_sum_of
opens_are n ss lt e =
    rw (
      none_else Fail ss refl,
      none_else Pass ss refl,
      none_else Undecided ss refl,
      all_open ss,
      none_else Fault ss refl,
      e,
      capped_small n lt,
      capped_small 0 (omega arith),
    ) refl

-- the verdicts of services, and those that are open
pub both_are : (vs : List SplitVerdict) (ss : List Service) (sum more new : SplitSum) → sum ≡ split_sum_of vs → more ≡ split_sum_of (opens_of ss) → new ≡ both_sums sum more → new ≡ split_sum_of (vs ++ opens_of ss)
both_are vs ss sum more new e f g = rw (g, e, f) (sym (sums_append vs (opens_of ss)))

pub each_service : (ws : List Windows) → length (services_of ws) ≡ length ws
each_service [] = refl
each_service (w ∷ ws) = ap suc (each_service ws)
