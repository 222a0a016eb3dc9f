-- What is held and known of the hours of a part of a log, and their audit lines.
use Rattle.std.proofs.Common.{◌≡◌, ◌∙◌, refl, ap, ap₂, sym, subst, ℕ, zero, suc, ◌+◌, ◌-◌, ◌*◌, ◌<◌, cond, List, [], ◌∷◌, ◌++◌, Option, None, length, take, drop, get_or, take_all, drop-cons, append_assoc, arith}
use Rattle.std.specs.Prelude.{is_some}
use Rattle.std.specs.List.{count_by, sum_by}
use Rattle.std.proofs.lemmas.List.{append-nil}
use Rattle.std.proofs.lemmas.List.Sums.{sum_by-cons}
use Rattle.sig_base.specs.HourRows.{Shown}
use Rattle.hour_store.specs.Store.{IsStore, Store, count_in, held_at, is_known}
use Rattle.hour_sweep.specs.Sums.{merged}
use Rattle.hour_sweep.specs.Hours.{point}
use Rattle.ring_config.specs.Settings.{Settings}
use Rattle.rule_audit.specs.declared.lines.AuditLine.{AuditLine}
use Rattle.rule_audit.specs.Rules.{rules_for}
use Rattle.hour_work.specs.declared.counts.RuleCount.{RuleCount}
use Rattle.hour_work.specs.Counts.{counts_of}
use Rattle.hour_work.specs.Numbers.{Numbers, count_from, count_sum, total_of}
use Rattle.hour_work.specs.Reports.{IsHourPart, IsReport}
use Rattle.hour_work.specs.Verdicts.{AreAuditLines}
use Rattle.hour_work.proofs.CountLaws.{count_parts}
use Rattle.measure_laws.specs.Plain.{AreLinesFrom}
use Rattle.measure_laws.proofs.Said.{held_between}
use Rattle.measure_laws.proofs.Rules.{counts_both}
use Rattle.measure_laws.proofs.Totals.{all_sums}

-- ---- what is held

sum_one : {X : Type 0} (f : X → ℕ) (x : X) → sum_by f (x ∷ []) ≡ f x
sum_one f x = let both = sum_by-cons f x [] in omega (arith, both)

-- of one hour
pub hour_held : (s : Store) (hour : ℕ) (f : Option Shown → ℕ) → hour < length s.hours → f (held_at s hour) ≡ sum_by f (held_between s hour (hour + 1))
hour_held s hour f lt =
    let one : hour + 1 - hour ≡ 1 = omega arith in
    let held : held_between s hour (hour + 1) ≡ held_at s hour ∷ [] = ap (λ n. take n (drop hour s.hours)) one ∙ ap (λ hs. take 1 hs) (drop-cons s.hours hour None lt) in
    sym (ap (λ hs. sum_by f hs) held ∙ sum_one f (held_at s hour))

-- of all hours
sums_same : {X Y : Type 0} (f : X → ℕ) (g : Y → ℕ) (a : X) (b : Y) (xs : List X) (ys : List Y) → length xs ≡ length ys → ((i : ℕ) → i < length ys → f (get_or xs i a) ≡ g (get_or ys i b)) → sum_by f xs ≡ sum_by g ys
sums_same f g a b [] [] e h = refl
sums_same f g a b [] (y ∷ ys) e h = absurd (omega arith)
sums_same f g a b (x ∷ xs) [] e h = absurd (omega arith)
sums_same f g a b (x ∷ xs) (y ∷ ys) e h =
    let first : f x ≡ g y = h 0 (omega arith) in
    let rest = sums_same f g a b xs ys (omega arith) (λ i lt. h (suc i) (omega arith)) in
    let us = sum_by-cons f x xs in
    let vs = sum_by-cons g y ys in
    omega (arith, first, rest, us, vs)

module _ (c : Settings) (s : Store) (all : List Numbers) (is : IsReport c s all) (n : ℕ) (size : length s.hours ≡ n) where
  all_held : (f : Numbers → ℕ) (g : Option Shown → ℕ) → ((hour : ℕ) (d : Numbers) → IsHourPart c s hour d → f d ≡ g (held_at s hour)) → sum_by f all ≡ sum_by g (held_between s 0 n)
  all_held f g same =
      let d = total_of [] in
      sums_same f g d None all s.hours is.size (λ hour lt. same hour (get_or all hour d) (is.each hour d lt))
      ∙ ap (λ hs. sum_by g hs) (sym (take_all (n - 0) s.hours (omega arith)))

  pub hours_total : (total_of all).held_hours ≡ count_by is_some (held_between s 0 n)
  hours_total = all_held (λ p. p.held_hours) (λ h. cond (is_some h) 1 0) (λ hour d part. part.held_hours)

  pub rows_total : (total_of all).held_rows ≡ sum_by count_in (held_between s 0 n)
  rows_total = all_held (λ p. p.held_rows) count_in (λ hour d part. part.held_rows)

-- ---- what is known

module _ (c : Settings) (s : Store) (all : List Numbers) (store : IsStore s) (is : IsReport c s all) where
  abbrev known_upto : ℕ → ℕ
  known_upto n = count_from (is_known s) 0 (point n)

  known_more : (n : ℕ) → known_upto n + count_from (is_known s) (point n) 36000 ≡ known_upto (suc n)
  known_more n =
      let both = count_parts (is_known s) 0 (point n) 36000 in
      let on : 0 + point n ≡ point n = omega arith in
      let next : point n + 36000 ≡ point (suc n) = omega arith in
      ap (λ (t : ℕ). known_upto n + count_from (is_known s) t 36000) (sym on) ∙ (sym both ∙ ap (λ (k : ℕ). count_from (is_known s) 0 k) next)

  pub known_total : (n : ℕ) → length s.hours ≡ n → (total_of all).known_tenths ≡ count_from (is_known s) 0 (36000 * (n - 0))
  known_total n same =
      let size = is.size in
      let some = store.some in
      let Total : ℕ → Numbers → Type 0 = λ k t. t.known_tenths ≡ known_upto k in
      let whole = all_sums Total all
      (λ d lt. let own = (is.each 0 d (omega arith)).known_tenths in omega (arith, own))
      (λ k d t lt so. ap₂ (λ (u v : ℕ). u + v) so (is.each k d (omega arith)).known_tenths ∙ known_more k)
      (omega arith) in
      let end : length all ≡ n - 0 = omega arith in
      subst (λ (k : ℕ). Total k (total_of all)) end whole

-- ---- audit lines

module _ (c : Settings) (s : Store) where
  one_hour : (hour : ℕ) (lines : List AuditLine) → AreAuditLines c s hour lines → AreLinesFrom c s hour 1 lines
  unfolding AreLinesFrom
  one_hour hour lines are = (lines, [], are, refl, sym (append-nil lines))

  pub hour_lines : (hour : ℕ) (lines : List AuditLine) → AreAuditLines c s hour lines → AreLinesFrom c s hour (hour + 1 - hour) lines
  hour_lines hour lines are = let one : 1 ≡ hour + 1 - hour = omega arith in subst (λ (n : ℕ). AreLinesFrom c s hour n lines) one (one_hour hour lines are)

  lines_more : (hour n : ℕ) (lines own : List AuditLine) → AreLinesFrom c s hour n lines → AreAuditLines c s (hour + n) own → AreLinesFrom c s hour (suc n) (lines ++ own)
  unfolding AreLinesFrom
  lines_more hour zero lines own none are =
      let here : hour + 0 ≡ hour = omega arith in
      (own, [], subst (λ (k : ℕ). AreAuditLines c s k own) here are, refl, ap (λ ls. ls ++ own) none ∙ sym (append-nil own))
  lines_more hour (suc n) lines own (first, rest, is, then, join) are =
      let on : hour + suc n ≡ hour + 1 + n = omega arith in
      let more = lines_more (hour + 1) n rest own then (subst (λ (k : ℕ). AreAuditLines c s k own) on are) in
      (first, rest ++ own, is, more, ap (λ ls. ls ++ own) join ∙ append_assoc first rest own)

  -- these are the counts of the audit lines of the first n hours
  pub record HaveLines (n : ℕ) (rules : List RuleCount) : Type 0 where
    pub lines : List AuditLine
    pub are_lines : AreLinesFrom c s 0 n lines
    pub counts : rules ≡ counts_of (length (rules_for c)) lines

  pub lines_total : (all : List Numbers) (n : ℕ) → IsStore s → IsReport c s all → length s.hours ≡ n → HaveLines (n - 0) (total_of all).rules
  lines_total all n store is same =
      let size = is.size in
      let some = store.some in
      let Total : ℕ → Numbers → Type 0 = λ k t. HaveLines k t.rules in
      let whole = all_sums Total all
      (λ d lt. let part = is.each 0 d (omega arith) in record { lines = part.lines; are_lines = one_hour 0 part.lines part.are_lines; counts = part.rules })
      (λ k d t lt so.
      let part = is.each k d (omega arith) in
      let on : k ≡ 0 + k = omega arith in
      record {
        lines = so.lines ++ part.lines;
        are_lines = lines_more 0 k so.lines part.lines so.are_lines (subst (λ (h : ℕ). AreAuditLines c s h part.lines) on part.are_lines);
        counts = ap₂ (λ us vs. merged count_sum us vs) so.counts part.rules ∙ counts_both (length (rules_for c)) so.lines part.lines;
      })
      (omega arith) in
      let end : length all ≡ n - 0 = omega arith in
      subst (λ (k : ℕ). Total k (total_of all)) end whole
