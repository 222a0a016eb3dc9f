-- How often a rule is judged, and how often each verdict is given.
use Rattle.std.proofs.Common.{◌≡◌, ◌≢◌, ◌∙◌, inl, inr, ℕ, zero, suc, ◌+◌, ◌*◌, ◌<◌, ◌≤◌, Bool, true, false, cond, ◌&&◌, ◌==◌, if◌then◌else◌, nat_eq, nat_le, List, [], ◌∷◌, ◌++◌, length, get_or, set, take, map, replicate, refl, sym, ap, subst, arith, length-set, get_or-set_same, get_or-set_other}
use Rattle.std.specs.List.{All, count_by, range_with_len}
use Rattle.std.proofs.lemmas.Bool.{cases_Bool, cases_eq, cases_lt}
use Rattle.std.proofs.lemmas.Bool.Decides.{nat_tests}
use Rattle.std.proofs.lemmas.List.{get_or-replicate, length-replicate, same_lists}
use Rattle.std.proofs.lemmas.List.FromFn.{get_or-map-range_with_len, length-map-range_with_len}
use Rattle.std.proofs.lemmas.List.Sums.{count_by_more_no, count_by_more_yes, sum_by-cons, sum_by-take-le}
use Rattle.sig_base.specs.declared.values.Row.{Row}
use Rattle.sig_base.specs.declared.values.Verdict.{Verdict}
use Rattle.sig_base.specs.declared.values.Verdict.TheVariants.{Idle, Kept, Broken, Undecided}
use Rattle.sig_base.proofs.Common.{and_first}
use Rattle.sig_base.proofs.Each.{Each}
use Rattle.channel_tables.specs.declared.spec.Spec.{Spec}
use Rattle.rule_audit.specs.declared.rules.Rule.{Rule}
use Rattle.rule_audit.specs.declared.lines.Place.TheVariants.{BeforeRow, EndOfTenth}
use Rattle.rule_audit.specs.declared.lines.AuditLine.{AuditLine}
use Rattle.rule_audit.specs.Obligations.{Obligation, end_obligations, is_due, is_timed_by, obligation, obligations_from, row_obligations, rows_obligations, tenth_obligations}
use Rattle.rule_audit.specs.Lines.{AreLinesOf, line_of, lines_of}
use Rattle.hour_work.specs.declared.counts.RuleCount.{RuleCount}
use Rattle.hour_work.specs.Numbers.{FitsCount}
use Rattle.hour_sweep.specs.Sums.{one_if}
use Rattle.arrival_measures.proofs.Counting.{one_low}
use Rattle.hour_work.specs.Counts.{count_of_rule, counted, counts_of, is_broken, is_kept, is_undecided}

-- how many of them are of the rule with this number
many : ℕ → List Obligation → ℕ
many k [] = 0
many k (o ∷ os) = one_if (o.number == k) + many k os

many_join : (k : ℕ) (xs ys : List Obligation) → many k (xs ++ ys) ≡ many k xs + many k ys
unfolding many
many_join k [] ys = let z : 0 + many k ys ≡ many k ys = omega arith in sym z
many_join k (x ∷ xs) ys = rw (many_join k xs ys) (omega arith)

-- one obligation, where there is one
many_if : (k : ℕ) (b : Bool) (o : Obligation) → many k (if b then o ∷ [] else []) ≤ one_if (o.number == k)
unfolding many
many_if k true o = omega arith
many_if k false o = omega arith

many_where : (k : ℕ) (b : Bool) (os : List Obligation) (n : ℕ) → (b ≡ true → many k os ≤ n) → many k (if b then os else []) ≤ one_if b * n
unfolding many
many_where k true os n h = let m = h refl in omega arith
many_where k false os n h = omega arith

differ : (n k : ℕ) → n ≢ k → (n == k) ≡ false
differ n k ne = grind (arith, nat_tests)

-- a rule is judged at most once before a row
row_none : (specs : List Spec) (i : ℕ) (r : Row) (k n : ℕ) (xs : List Rule) → k < n → many k (row_obligations specs i r n xs) ≡ 0
unfolding many row_obligations
row_none specs i r k n [] lt = refl
row_none specs i r k n (x ∷ xs) lt =
    let other : n ≢ k = omega arith in
    let first = many_if k (is_timed_by specs r x) (obligation n x r.at (BeforeRow i)) in
    let zero_first : one_if (n == k) ≡ 0 = ap one_if (differ n k other) in
    let rest = row_none specs i r k (n + 1) xs (omega arith) in
    many_join k (if is_timed_by specs r x then obligation n x r.at (BeforeRow i) ∷ [] else []) (row_obligations specs i r (n + 1) xs) ∙ omega arith

row_one : (specs : List Spec) (i : ℕ) (r : Row) (k n : ℕ) (xs : List Rule) → many k (row_obligations specs i r n xs) ≤ 1
unfolding many row_obligations
row_one specs i r k n [] = omega arith
row_one specs i r k n (x ∷ xs) =
    let first = many_if k (is_timed_by specs r x) (obligation n x r.at (BeforeRow i)) in
    let joined = many_join k (if is_timed_by specs r x then obligation n x r.at (BeforeRow i) ∷ [] else []) (row_obligations specs i r (n + 1) xs) in
    elim (cases_eq n k) [
      | inl same ↦ let most = one_low (n == k) in let rest = row_none specs i r k (n + 1) xs (omega arith) in omega (arith, joined)
      | inr other ↦ let zero_first : one_if (n == k) ≡ 0 = ap one_if (differ n k other) in let rest = row_one specs i r k (n + 1) xs in omega (arith, joined)
    ]

-- and at most once at the end of a tenth
end_none : (specs : List Spec) (rows : List Row) (before : Bool) (t k n : ℕ) (xs : List Rule) → k < n → many k (end_obligations specs rows before t n xs) ≡ 0
unfolding many end_obligations
end_none specs rows before t k n [] lt = refl
end_none specs rows before t k n (x ∷ xs) lt =
    let other : n ≢ k = omega arith in
    let first = many_if k (is_due specs rows before t x) (obligation n x t EndOfTenth) in
    let zero_first : one_if (n == k) ≡ 0 = ap one_if (differ n k other) in
    let rest = end_none specs rows before t k (n + 1) xs (omega arith) in
    many_join k (if is_due specs rows before t x then obligation n x t EndOfTenth ∷ [] else []) (end_obligations specs rows before t (n + 1) xs) ∙ omega arith

end_one : (specs : List Spec) (rows : List Row) (before : Bool) (t k n : ℕ) (xs : List Rule) → many k (end_obligations specs rows before t n xs) ≤ 1
unfolding many end_obligations
end_one specs rows before t k n [] = omega arith
end_one specs rows before t k n (x ∷ xs) =
    let first = many_if k (is_due specs rows before t x) (obligation n x t EndOfTenth) in
    let joined = many_join k (if is_due specs rows before t x then obligation n x t EndOfTenth ∷ [] else []) (end_obligations specs rows before t (n + 1) xs) in
    elim (cases_eq n k) [
      | inl same ↦ let most = one_low (n == k) in let rest = end_none specs rows before t k (n + 1) xs (omega arith) in omega (arith, joined)
      | inr other ↦ let zero_first : one_if (n == k) ≡ 0 = ap one_if (differ n k other) in let rest = end_one specs rows before t k (n + 1) xs in omega (arith, joined)
    ]

-- how many rows are at the tenth, and how many at it or later
at_tenth : ℕ → List Row → ℕ
at_tenth t [] = 0
at_tenth t (r ∷ rs) = one_if (nat_eq r.at t) + at_tenth t rs

from_tenth : ℕ → List Row → ℕ
from_tenth t [] = 0
from_tenth t (r ∷ rs) = one_if (nat_le t r.at) + from_tenth t rs

one_row : (t a : ℕ) → one_if (nat_eq a t) + one_if (nat_le (t + 1) a) ≤ one_if (nat_le t a)
one_row t a = elim (cases_lt a t) [
  | inl below ↦
      let e : nat_eq a t ≡ false = grind (arith, nat_tests) in
      let f : nat_le (t + 1) a ≡ false = grind (arith, nat_tests) in
      let g : nat_le t a ≡ false = grind (arith, nat_tests) in rw (e, f, g) (omega arith)
  | inr from ↦
      let g : nat_le t a ≡ true = grind (arith, nat_tests) in
      elim (cases_eq a t) [
        | inl same ↦ let f : nat_le (t + 1) a ≡ false = grind (arith, nat_tests) in let m = one_low (nat_eq a t) in rw (f, g) (omega arith)
        | inr other ↦ let e : nat_eq a t ≡ false = grind (arith, nat_tests) in let m = one_low (nat_le (t + 1) a) in rw (e, g) (omega arith)
      ]
]

rows_split : (t : ℕ) (rs : List Row) → at_tenth t rs + from_tenth (t + 1) rs ≤ from_tenth t rs
unfolding at_tenth from_tenth
rows_split t [] = omega arith
rows_split t (r ∷ rs) = let here = one_row t r.at in let rest = rows_split t rs in omega arith

from_most : (t : ℕ) (rs : List Row) → from_tenth t rs ≤ length rs
unfolding from_tenth
from_most t [] = omega arith
from_most t (r ∷ rs) = let here = one_low (nat_le t r.at) in let rest = from_most t rs in omega arith

rows_most : (specs : List Spec) (rules : List Rule) (t k i : ℕ) (rs : List Row) → many k (rows_obligations specs rules t i rs) ≤ at_tenth t rs
unfolding many rows_obligations at_tenth
rows_most specs rules t k i [] = omega arith
rows_most specs rules t k i (r ∷ rs) =
    let first = many_where k (nat_eq r.at t) (row_obligations specs i r 1 rules) 1 (λ e. row_one specs i r k 1 rules) in
    let rest = rows_most specs rules t k (i + 1) rs in
    let joined = many_join k (if nat_eq r.at t then row_obligations specs i r 1 rules else []) (rows_obligations specs rules t (i + 1) rs) in
    omega (arith, joined)

tenth_most : (specs : List Spec) (rules : List Rule) (rows : List Row) (before : Bool) (t k : ℕ) → many k (tenth_obligations specs rules rows before t) ≤ at_tenth t rows + 1
tenth_most specs rules rows before t k =
    let a = rows_most specs rules t k 0 rows in
    let b = end_one specs rows before t k 1 rules in
    let joined = many_join k (rows_obligations specs rules t 0 rows) (end_obligations specs rows before t 1 rules) in
    omega (arith, joined)

where_most : (k : ℕ) (b : Bool) (os : List Obligation) (n : ℕ) → many k os ≤ n → many k (if b then os else []) ≤ n
unfolding many
where_most k true os n h = h
where_most k false os n h = omega arith

hour_most : (known : ℕ → Bool) (specs : List Spec) (rules : List Rule) (rows : List Row) (before : Bool) (t k n : ℕ) → many k (obligations_from known specs rules rows before t n) ≤ from_tenth t rows + n
unfolding many obligations_from
hour_most known specs rules rows before t k zero = omega arith
hour_most known specs rules rows before t k (suc n) =
    let here = where_most k (known t) (tenth_obligations specs rules rows before t) (at_tenth t rows + 1) (tenth_most specs rules rows before t k) in
    let rest = hour_most known specs rules rows (known t) (t + 1) k n in
    let split = rows_split t rows in
    let joined = many_join k (if known t then tenth_obligations specs rules rows before t else []) (obligations_from known specs rules rows (known t) (t + 1) n) in
    omega (arith, joined)

-- ---- lines

one_line : (p : AuditLine → Bool) (k : ℕ) (l : AuditLine) → (p l ≡ true → (l.rule == k) ≡ true) → one_if (p l) ≤ one_if (l.rule == k)
one_line p k l h = elim (cases_Bool (p l)) [
  | inl is ↦ rw (is, h is) (omega arith)
  | inr isnt ↦ rw isnt (omega arith)
]

count_cons : (p : AuditLine → Bool) (l : AuditLine) (ls : List AuditLine) → count_by p (l ∷ ls) ≡ one_if (p l) + count_by p ls
count_cons p l ls = elim (cases_Bool (p l)) [
  | inl is ↦ rw (sum_by-cons, is) refl
  | inr isnt ↦ rw (sum_by-cons, isnt) refl
]

lines_most : (Has : Obligation → Verdict → Type 0) (p : AuditLine → Bool) (k : ℕ) (os : List Obligation) (lines : List AuditLine) → ((l : AuditLine) → p l ≡ true → (l.rule == k) ≡ true) → AreLinesOf Has os lines → count_by p lines ≤ many k os
unfolding many
lines_most Has p k [] lines h e = rw e (omega arith)
lines_most Has p k (o ∷ os) lines h (x, has, (rest, are, e)) = rw e (of x (lines_most Has p k os rest h are))
  where
    line : (y : Verdict) → count_by p rest ≤ many k os → count_by p (line_of o y ∷ rest) ≤ one_if (o.number == k) + many k os
    line y more = let one = one_line p k (line_of o y) (h (line_of o y)) in let c = count_cons p (line_of o y) rest in omega arith

    of : (y : Verdict) → count_by p rest ≤ many k os → count_by p (lines_of o y ++ rest) ≤ one_if (o.number == k) + many k os
    of Idle more = omega arith
    of Kept more = line Kept more
    of Broken more = line Broken more
    of Undecided more = line Undecided more

-- the counts of an hour with so many rows
pub counts_fit : (Has : Obligation → Verdict → Type 0) (known : ℕ → Bool) (specs : List Spec) (rules : List Rule) (rows : List Row) (before : Bool) (t n : ℕ) (lines : List AuditLine) → length rows ≤ 400000 → AreLinesOf Has (obligations_from known specs rules rows before t 36000) lines → All (FitsCount 1) (counts_of n lines)
unfolding counts_of
counts_fit Has known specs rules rows before t n lines few are j d lt =
    let size : length (map (λ number. count_of_rule number lines) (range_with_len 1 n)) ≡ n = length-map-range_with_len (λ number. count_of_rule number lines) 1 n in
    let at = get_or-map-range_with_len (λ number. count_of_rule number lines) 1 n j (1 + j) d (omega arith) refl in
    let k = 1 + j in
    let most = hour_most known specs rules rows before t k 36000 in
    let rs = from_most t rows in
    let a = lines_most Has (λ l. l.rule == k && is_kept l.verdict) k (obligations_from known specs rules rows before t 36000) lines (λ l e. and_first (l.rule == k) (is_kept l.verdict) e) are in
    let b = lines_most Has (λ l. l.rule == k && is_broken l.verdict) k (obligations_from known specs rules rows before t 36000) lines (λ l e. and_first (l.rule == k) (is_broken l.verdict) e) are in
    let u = lines_most Has (λ l. l.rule == k && is_undecided l.verdict) k (obligations_from known specs rules rows before t 36000) lines (λ l e. and_first (l.rule == k) (is_undecided l.verdict) e) are in
    rw at (record { kept = omega arith; broken = omega arith; undecided = omega arith })

-- lines have the numbers of their obligations
pub lines_each : (Has : Obligation → Verdict → Type 0) (P : ℕ → Type 0) (os : List Obligation) (lines : List AuditLine) → Each (λ o. P o.number) os → AreLinesOf Has os lines → Each (λ l. P l.rule) lines
lines_each Has P [] lines ps e = subst (Each (λ l. P l.rule)) (sym e) tt
lines_each Has P (o ∷ os) lines ps (x, has, (rest, are, e)) = subst (Each (λ l. P l.rule)) (sym e) (of x (lines_each Has P os rest ps.1 are))
  where
    of : (x : Verdict) → Each (λ l. P l.rule) rest → Each (λ l. P l.rule) (lines_of o x ++ rest)
    of Idle h = h
    of Kept h = (ps.0, h)
    of Broken h = (ps.0, h)
    of Undecided h = (ps.0, h)

-- ---- counting line by line

count_more : (p : AuditLine → Bool) (ls : List AuditLine) (i : ℕ) (d : AuditLine) (b : Bool) → i < length ls → p (get_or ls i d) ≡ b → count_by p (take (i + 1) ls) ≡ count_by p (take i ls) + one_if b
count_more p ls i d true lt e = count_by_more_yes p ls i d lt e
count_more p ls i d false lt e = let c = count_by_more_no p ls i d lt e in c ∙ omega arith

rule_more : (k : ℕ) (ls : List AuditLine) (i : ℕ) (d : AuditLine) (x : Verdict) → i < length ls → (get_or ls i d).rule ≡ k → (get_or ls i d).verdict ≡ x → count_of_rule k (take (i + 1) ls) ≡ counted (count_of_rule k (take i ls)) x
rule_more k ls i d x lt of_rule verdict =
    let same : ((get_or ls i d).rule == k) ≡ true = grind (arith, nat_tests) in
    let a = count_more (λ l. l.rule == k && is_kept l.verdict) ls i d (is_kept x) lt (rw (same, verdict) refl) in
    let b = count_more (λ l. l.rule == k && is_broken l.verdict) ls i d (is_broken x) lt (rw (same, verdict) refl) in
    let u = count_more (λ l. l.rule == k && is_undecided l.verdict) ls i d (is_undecided x) lt (rw (same, verdict) refl) in
    rw (a, b, u) refl

other_same : (k : ℕ) (ls : List AuditLine) (i : ℕ) (d : AuditLine) → i < length ls → (get_or ls i d).rule ≢ k → count_of_rule k (take (i + 1) ls) ≡ count_of_rule k (take i ls)
other_same k ls i d lt ne =
    let other : ((get_or ls i d).rule == k) ≡ false = differ (get_or ls i d).rule k ne in
    let a = count_by_more_no (λ (l : AuditLine). l.rule == k && is_kept l.verdict) ls i d lt (rw other refl) in
    let b = count_by_more_no (λ (l : AuditLine). l.rule == k && is_broken l.verdict) ls i d lt (rw other refl) in
    let u = count_by_more_no (λ (l : AuditLine). l.rule == k && is_undecided l.verdict) ls i d lt (rw other refl) in
    rw (a, b, u) refl

pub counts_at : (n : ℕ) (ls : List AuditLine) (j : ℕ) (d : RuleCount) → j < n → get_or (counts_of n ls) j d ≡ count_of_rule (1 + j) ls
unfolding counts_of
counts_at n ls j d lt = get_or-map-range_with_len (λ number. count_of_rule number ls) 1 n j (1 + j) d lt refl

pub length-counts_of : (n : ℕ) (ls : List AuditLine) → length (counts_of n ls) ≡ n
unfolding counts_of
length-counts_of n ls = length-map-range_with_len (λ number. count_of_rule number ls) 1 n

-- no line
pub counts_none : (n : ℕ) → replicate n (record { kept = 0; broken = 0; undecided = 0 }) ≡ counts_of n []
counts_none n =
    let z : RuleCount = record { kept = 0; broken = 0; undecided = 0 } in
    same_lists (replicate n z) (counts_of n []) (length-replicate n z ∙ sym (length-counts_of n [])) (λ j d lt.
    let within : j < n = subst (λ (m : ℕ). j < m) (length-replicate n z) lt in
    get_or-replicate n j z d within ∙ sym (counts_at n [] j d within))

-- fewer lines give smaller counts
pub counts_taken : (n : ℕ) (ls : List AuditLine) (i : ℕ) → All (FitsCount 1) (counts_of n ls) → All (FitsCount 1) (counts_of n (take i ls))
counts_taken n ls i fit j d lt =
    let within : j < n = subst (λ (m : ℕ). j < m) (length-counts_of n (take i ls)) lt in
    let whole : j < length (counts_of n ls) = subst (λ (m : ℕ). j < m) (sym (length-counts_of n ls)) within in
    let f = subst (λ (c : RuleCount). FitsCount 1 c) (counts_at n ls j d within) (fit j d whole) in
    let a = sum_by-take-le (λ (l : AuditLine). cond (l.rule == 1 + j && is_kept l.verdict) 1 0) ls i in
    let b = sum_by-take-le (λ (l : AuditLine). cond (l.rule == 1 + j && is_broken l.verdict) 1 0) ls i in
    let u = sum_by-take-le (λ (l : AuditLine). cond (l.rule == 1 + j && is_undecided l.verdict) 1 0) ls i in
    let k1 = f.kept in let b1 = f.broken in let u1 = f.undecided in
    subst (λ (c : RuleCount). FitsCount 1 c) (sym (counts_at n (take i ls) j d within)) (record { kept = omega arith; broken = omega arith; undecided = omega arith })

-- one more line
pub counts_more : (n : ℕ) (ls : List AuditLine) (i k : ℕ) (d : AuditLine) (e : RuleCount) → i < length ls → (get_or ls i d).rule ≡ 1 + k → k < n → set (counts_of n (take i ls)) k (counted (get_or (counts_of n (take i ls)) k e) (get_or ls i d).verdict) ≡ counts_of n (take (i + 1) ls)
counts_more n ls i k d e lt of_rule within =
    let old = counts_of n (take i ls) in
    let new = counts_of n (take (i + 1) ls) in
    let x = (get_or ls i d).verdict in
    let size_old : length old ≡ n = length-counts_of n (take i ls) in
    let size_new : length new ≡ n = length-counts_of n (take (i + 1) ls) in
    let size_set : length (set old k (counted (get_or old k e) x)) ≡ length old = length-set old k (counted (get_or old k e) x) in
    same_lists (set old k (counted (get_or old k e) x)) new (size_set ∙ (size_old ∙ sym size_new)) (λ j f at.
    let j_in : j < n = omega arith in
    elim (cases_eq j k) [
      | inl here ↦
          let in_old : k < length old = omega arith in
          let more = rule_more (1 + k) ls i d x lt of_rule refl in
          ap (λ (z : ℕ). get_or (set old k (counted (get_or old k e) x)) z f) here
          ∙ (get_or-set_same old k (counted (get_or old k e) x) f in_old
          ∙ (ap (λ (c : RuleCount). counted c x) (counts_at n (take i ls) k e within)
          ∙ (sym more
          ∙ (sym (counts_at n (take (i + 1) ls) k f within)
          ∙ ap (λ (z : ℕ). get_or new z f) (sym here)))))
      | inr elsewhere ↦
          let ne : (get_or ls i d).rule ≢ 1 + j = omega arith in
          get_or-set_other old k j (counted (get_or old k e) x) f elsewhere
          ∙ (counts_at n (take i ls) j f j_in
          ∙ (sym (other_same (1 + j) ls i d lt ne)
          ∙ sym (counts_at n (take (i + 1) ls) j f j_in)))
    ])
