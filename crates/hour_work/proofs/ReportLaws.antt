-- What the report of a store has.
use Rattle.std.proofs.Common.{◌≡◌, ◌∙◌, ℕ, suc, ◌<◌, ◌≤◌, List, [], ◌∷◌, length, get_or, map, refl, sym, ap, arith}
use Rattle.std.proofs.lemmas.List.FromFn.{length-map-range_with_len}
use Rattle.hour_store.specs.Store.{Store}
use Rattle.ring_config.specs.Settings.{Settings}
use Rattle.rule_audit.specs.Rules.{rules_for}
use Rattle.hour_work.specs.declared.counts.RuleCount.{RuleCount}
use Rattle.std.specs.List.{fold}
use Rattle.hour_sweep.specs.Sums.{merged}
use Rattle.hour_work.specs.Numbers.{Numbers, count_sum, total_of}
use Rattle.hour_work.specs.Counts.{count_of_rule, counts_of}
use Rattle.hour_work.specs.Reports.{IsHourPart}

-- there is one count for each rule in the numbers of an hour
pub part_counted : (c : Settings) (s : Store) (h : ℕ) (p : Numbers) → IsHourPart c s h p → length p.rules ≡ length (rules_for c)
unfolding counts_of
part_counted c s h p is = rw is.rules (length-map-range_with_len (λ number. count_of_rule number is.lines) 1 (length (rules_for c)))

sum_counted : (n : ℕ) (xs ys : List RuleCount) → length xs ≡ n → length ys ≡ n → length (merged count_sum xs ys) ≡ n
sum_counted n [] ys e f = f
sum_counted n (x ∷ xs) [] e f = e
sum_counted n (x ∷ xs) (y ∷ ys) e f = ap suc (sum_counted (length xs) xs ys refl (let a : suc (length ys) ≡ suc (length xs) = f ∙ sym e in omega arith)) ∙ e

-- of some counts, and more from each hour
all_counted : (n : ℕ) (some : List RuleCount) (all : List Numbers) → length some ≡ n → ((k : ℕ) (d : Numbers) → k < length all → length (get_or all k d).rules ≡ n) → length (fold (merged count_sum) some (map (λ (p : Numbers). p.rules) all)) ≡ n
all_counted n some [] e each = e
all_counted n some (p ∷ ps) e each = all_counted n (merged count_sum some p.rules) ps (sum_counted n some p.rules e (each 0 p (omega arith))) (λ k d lt. each (suc k) d (omega arith))

-- and in the sums of the numbers of several hours
pub total_counted : (n : ℕ) (all : List Numbers) → 1 ≤ length all → ((k : ℕ) (d : Numbers) → k < length all → length (get_or all k d).rules ≡ n) → length (total_of all).rules ≡ n
total_counted n [] some each = absurd (omega arith)
total_counted n (p ∷ ps) some each = all_counted n p.rules ps (each 0 p (omega arith)) (λ k d lt. each (suc k) d (omega arith))
