-- The counts of rules over all hours.
use Rattle.std.proofs.Common.{◌≡◌, ◌∙◌, refl, ap, ap₂, ℕ, suc, ◌<◌, cond, ◌&&◌, List, [], ◌∷◌, ◌++◌, length, get_or, map, arith}
use Rattle.std.specs.Prelude.{◌==◌}
use Rattle.std.specs.List.{range_with_len}
use Rattle.std.proofs.lemmas.List.Sums.{sum_by-append}
use Rattle.hour_store.specs.Store.{Store}
use Rattle.hour_sweep.specs.Sums.{merged}
use Rattle.ring_config.specs.Settings.{Settings}
use Rattle.signal_log.specs.Log.{HasHistory, log_of}
use Rattle.rule_audit.specs.declared.lines.AuditLine.{AuditLine}
use Rattle.rule_audit.specs.Rules.{rules_for}
use Rattle.hour_work.specs.Counts.{count_of_rule, counts_of, is_broken, is_kept, is_undecided}
use Rattle.hour_work.specs.Numbers.{Numbers, count_sum, numbers_sum, total_of}
use Rattle.hour_work.specs.Measures.{over_hours}
use Rattle.hour_work.specs.Reports.{IsReport}
use Rattle.hour_work.proofs.OneLaws.{one_lines}
use Rattle.measure_laws.specs.Totals.{AreHoursLines, RuleTotals}
use Rattle.measure_laws.proofs.Totals.{all_sums}

-- ---- the counts of two lists of lines

merged_maps : {X A : Type 0} (put : A → A → A) (f g h : X → A) (xs : List X) → ((x : X) → put (f x) (g x) ≡ h x) → merged put (map f xs) (map g xs) ≡ map h xs
merged_maps put f g h [] e = refl
merged_maps put f g h (x ∷ xs) e = ap₂ (λ y ys. y ∷ ys) (e x) (merged_maps put f g h xs e)

count_both : (k : ℕ) (xs ys : List AuditLine) → count_sum (count_of_rule k xs) (count_of_rule k ys) ≡ count_of_rule k (xs ++ ys)
count_both k xs ys =
    let a = sum_by-append (λ (l : AuditLine). cond (l.rule == k && is_kept l.verdict) 1 0) xs ys in
    let b = sum_by-append (λ (l : AuditLine). cond (l.rule == k && is_broken l.verdict) 1 0) xs ys in
    let u = sum_by-append (λ (l : AuditLine). cond (l.rule == k && is_undecided l.verdict) 1 0) xs ys in
    rw (a, b, u) refl

pub counts_both : (n : ℕ) (xs ys : List AuditLine) → merged count_sum (counts_of n xs) (counts_of n ys) ≡ counts_of n (xs ++ ys)
unfolding counts_of
counts_both n xs ys = merged_maps count_sum (λ k. count_of_rule k xs) (λ k. count_of_rule k ys) (λ k. count_of_rule k (xs ++ ys)) (range_with_len 1 n) (λ k. count_both k xs ys)

-- ---- hour by hour

module _ (c : Settings) (s : Store) (all : List Numbers) (lines : ℕ → List AuditLine) (has : HasHistory (log_of c.specs s)) (is : IsReport c s all) (are : AreHoursLines c s lines) where
  abbrev rules : ℕ
  rules = length (rules_for c)

  hour_counts : (n : ℕ) (d : Numbers) → n < length all → (get_or all n d).rules ≡ counts_of rules (lines n)
  hour_counts n d lt =
      let size = is.size in
      let within : n < length s.hours = omega arith in
      let part = is.each n d within in
      part.rules ∙ ap (λ ls. counts_of rules ls) (one_lines c s n part.lines (lines n) has part.are_lines (are n within))

  abbrev AreCounts : ℕ → Numbers → Type 0
  AreCounts n t = t.rules ≡ counts_of rules (over_hours lines n)

  counts_more : (n : ℕ) (d t : Numbers) → n < length all → AreCounts n t → AreCounts (suc n) (numbers_sum t (get_or all n d))
  counts_more n d t lt so = ap₂ (λ us vs. merged count_sum us vs) so (hour_counts n d lt) ∙ counts_both rules (over_hours lines n) (lines n)

  counts_total : 0 < length all → AreCounts (length all) (total_of all)
  counts_total some = all_sums AreCounts all (λ d lt. hour_counts 0 d lt) counts_more some

pub rule_totals : RuleTotals
rule_totals c s all lines store has is are =
    let size = is.size in
    let some = store.some in
    counts_total c s all lines has is are (omega arith) ∙ ap (λ n. counts_of (length (rules_for c)) (over_hours lines n)) size
