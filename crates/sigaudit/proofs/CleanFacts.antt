-- An hour of which all verdicts are kept has no broken or undecided line.
use Rattle.std.proofs.Common.{◌≡◌, refl, sym, subst, inl, inr, ℕ, zero, suc, ◌+◌, ◌-◌, ◌<◌, ◌≤◌, ◌==◌, ◌&&◌, Bool, true, false, cond, None, List, [], ◌∷◌, ◌++◌, length, map, get_or, arith}
use Rattle.std.specs.List.{All, count_by}
use Rattle.std.proofs.lemmas.Bool.{cases_Bool, eq-eqb}
use Rattle.std.proofs.lemmas.List.Elements.{All-append, All-cons, All-nil, All-same}
use Rattle.std.proofs.lemmas.List.FromFn.{get_or-map-range_with_len, length-map-range_with_len}
use Rattle.std.proofs.lemmas.List.Sums.{sum_by-append}
use Rattle.sig_base.specs.declared.values.Verdict.{Verdict}
use Rattle.sig_base.specs.declared.values.Verdict.TheVariants.{Idle, Kept, Broken, Undecided}
use Rattle.hour_store.specs.Store.{Store}
use Rattle.ring_config.specs.Settings.{Settings}
use Rattle.rule_audit.specs.declared.lines.AuditLine.{AuditLine}
use Rattle.rule_audit.specs.Lines.{AreLinesOf, lines_of}
use Rattle.rule_audit.specs.Obligations.{Obligation}
use Rattle.rule_audit.specs.Rules.{rules_for}
use Rattle.hour_work.specs.declared.counts.RuleCount.{RuleCount}
use Rattle.hour_work.specs.Counts.{HasKeptAlone, count_of_rule, counts_of, is_broken, is_kept, is_undecided}
use Rattle.hour_work.specs.Numbers.{Numbers}
use Rattle.hour_work.specs.Reports.{IsHourPart}
use Rattle.hour_work.specs.Verdicts.{HasStoreVerdict, obligations_in}
use Rattle.hour_work.proofs.PointLaws.{lines_numbered}
use Rattle.signal_log.specs.Rows.{hour_rows}
use Rattle.signal_log.specs.Log.{Log, log_of}
use Rattle.sig_base.specs.declared.values.Row.{Row}
use Rattle.rule_audit.specs.declared.rules.Rule.{Rule}
use Rattle.session.specs.Windows.{AreWithWindows, with_window}
use Rattle.sigaudit.specs.Audit.{AddsHour, failing_of}
use Rattle.report_text.proofs.VerdictLines.{no_line}

-- ---- no line is idle

abbrev IsSaid : AuditLine → Type 0
IsSaid l = l.verdict ≡ Idle → ⊥

said_one : (o : Obligation) (x : Verdict) → All IsSaid (lines_of o x)
said_one o Idle = All-nil IsSaid
said_one o Kept = All-cons IsSaid _ [] (λ e. absurd (cc)) (All-nil IsSaid)
said_one o Broken = All-cons IsSaid _ [] (λ e. absurd (cc)) (All-nil IsSaid)
said_one o Undecided = All-cons IsSaid _ [] (λ e. absurd (cc)) (All-nil IsSaid)

all_said : (Has : Obligation → Verdict → Type 0) (os : List Obligation) (lines : List AuditLine) → AreLinesOf Has os lines → All IsSaid lines
all_said Has [] lines e = All-same IsSaid lines [] e (All-nil IsSaid)
all_said Has (o ∷ os) lines h = All-same IsSaid lines (lines_of o h.0 ++ h.2.0) h.2.2 (All-append IsSaid (lines_of o h.0) h.2.0 (said_one o h.0) (all_said Has os h.2.0 h.2.1))

-- ---- none is broken or undecided

one_of : (b : Bool) → b ≡ true → cond {A = ℕ} b 1 0 ≡ 1
one_of true e = refl
one_of false e = absurd (cc)

-- of a list that has no such element, none is one
none_of : {X : Type 0} (p : X → Bool) (xs : List X) → count_by p xs ≡ 0 → (k : ℕ) (d : X) → k < length xs → p (get_or xs k d) ≡ false
none_of p [] e k d lt = absurd (omega arith)
none_of p (x ∷ xs) e zero d lt =
    let parts : count_by p (x ∷ xs) ≡ (0 + cond (p x) 1 0) + count_by p xs = sum_by-append (λ y. cond (p y) 1 0) (x ∷ []) xs in
    elim (cases_Bool (p x)) [
      | inl here ↦ let one : cond {A = ℕ} (p x) 1 0 ≡ 1 = one_of (p x) here in absurd (omega arith)
      | inr other ↦ other
    ]
none_of p (x ∷ xs) e (suc k) d lt =
    let parts : count_by p (x ∷ xs) ≡ (0 + cond (p x) 1 0) + count_by p xs = sum_by-append (λ y. cond (p y) 1 0) (x ∷ []) xs in
    none_of p xs (omega arith) k d (omega arith)

kept_of : (v : Verdict) → (v ≡ Idle → ⊥) → is_broken v ≡ false → is_undecided v ≡ false → is_kept v ≡ true
kept_of Idle said b u = absurd (said refl)
kept_of Kept said b u = refl
kept_of Broken said b u = absurd (cc)
kept_of Undecided said b u = absurd (cc)

-- a line of a rule that has kept verdicts alone is kept
one_kept : (n : ℕ) (lines : List AuditLine) (k : ℕ) → k < length lines → All (λ l. (1 ≤ l.rule) × (l.rule ≤ n)) lines → All IsSaid lines → All HasKeptAlone (counts_of n lines) → is_kept (get_or lines k no_line).verdict ≡ true
unfolding counts_of
one_kept n lines k lt numbered said kept =
    let l = get_or lines k no_line in
    let (low, high) = numbered k no_line lt in
    let d : RuleCount = record { kept = 0; broken = 0; undecided = 0 } in
    let size = length-map-range_with_len (λ number. count_of_rule number lines) 1 n in
    let at : get_or (counts_of n lines) (l.rule - 1) d ≡ count_of_rule l.rule lines = get_or-map-range_with_len (λ number. count_of_rule number lines) 1 n (l.rule - 1) l.rule d (omega arith) (omega arith) in
    let (b, u) = subst HasKeptAlone at (kept (l.rule - 1) d (omega arith)) in
    let not_broken = none_of (λ x. x.rule == l.rule && is_broken x.verdict) lines b k no_line lt in
    let not_undecided = none_of (λ x. x.rule == l.rule && is_undecided x.verdict) lines u k no_line lt in
    kept_of l.verdict (said k no_line lt) (rw (eq-eqb l.rule l.rule refl) at not_broken) (rw (eq-eqb l.rule l.rule refl) at not_undecided)

-- ---- kept lines have no window, and none of them is added

not_broken : (v : Verdict) → is_kept v ≡ true → is_broken v ≡ false
not_broken Idle k = absurd (cc)
not_broken Kept k = refl
not_broken Broken k = absurd (cc)
not_broken Undecided k = absurd (cc)

abbrev plain_line : AuditLine → AuditLine
plain_line l = with_window l None

windowless : (log : Log) (rules : List Rule) (rows : List Row) (lines : List AuditLine) → ((k : ℕ) → k < length lines → is_kept (get_or lines k no_line).verdict ≡ true) → AreWithWindows log rules rows lines (map plain_line lines)
windowless log rules rows [] all = tt
windowless log rules rows (l ∷ ls) all = ((None, not_broken l.verdict (all 0 (omega arith)), refl), windowless log rules rows ls (λ k lt. all (suc k) (omega arith)))

none_failing : (lines : List AuditLine) → ((k : ℕ) → k < length lines → is_kept (get_or lines k no_line).verdict ≡ true) → failing_of (map plain_line lines) ≡ []
none_failing [] all = refl
none_failing (l ∷ ls) all = rw (all 0 (omega arith)) (none_failing ls (λ k lt. all (suc k) (omega arith)))

pub clean_hour : (c : Settings) (s : Store) (hour : ℕ) (p : Numbers) → IsHourPart c s hour p → All HasKeptAlone p.rules → AddsHour c s hour [] []
clean_hour c s hour p part kept =
    let counts = subst (λ (rs : List RuleCount). All HasKeptAlone rs) part.rules kept in
    let numbered = lines_numbered c s hour part.lines part.are_lines in
    let said = all_said (HasStoreVerdict c s hour) (obligations_in c s hour) part.lines part.are_lines in
    let each = λ (k : ℕ) (lt : k < length part.lines). one_kept (length (rules_for c)) part.lines k lt numbered said counts in
    (map plain_line part.lines, (part.lines, part.are_lines, windowless (log_of c.specs s) (rules_for c) (hour_rows s hour) part.lines each), sym (none_failing part.lines each))
