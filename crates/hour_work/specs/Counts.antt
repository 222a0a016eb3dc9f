-- How often the lines of an audit give each verdict on a rule.
use Rattle.std.specs.Prelude.{◌≡◌, ℕ, ◌+◌, ◌&&◌, ◌==◌, Bool, true, false, List, map, count_by}
use Rattle.std.specs.List.{range_with_len}
use Rattle.sig_base.specs.declared.values.Verdict.{Verdict}
use Rattle.sig_base.specs.declared.values.Verdict.TheVariants.{Kept, Broken, Undecided}
use Rattle.rule_audit.specs.declared.lines.AuditLine.{AuditLine}
use Rattle.hour_work.specs.declared.counts.RuleCount.{RuleCount}
use Rattle.hour_sweep.specs.Sums.{one_if}

-- the verdict is kept
abbrev pub is_kept : Verdict → Bool
is_kept Kept = true
is_kept _ = false

-- the verdict is broken
abbrev pub is_broken : Verdict → Bool
is_broken Broken = true
is_broken _ = false

-- the verdict is undecided
abbrev pub is_undecided : Verdict → Bool
is_undecided Undecided = true
is_undecided _ = false

-- how many of the lines are of the rule with this number, by their verdicts
abbrev pub count_of_rule : ℕ → List AuditLine → RuleCount
count_of_rule number lines = record {
  kept = count_by (λ l. l.rule == number && is_kept l.verdict) lines;
  broken = count_by (λ l. l.rule == number && is_broken l.verdict) lines;
  undecided = count_by (λ l. l.rule == number && is_undecided l.verdict) lines;
}

-- the counts of the rules with the numbers 1 to n
unfoldable pub counts_of : ℕ → List AuditLine → List RuleCount
counts_of n lines = map (λ number. count_of_rule number lines) (range_with_len 1 n)

-- no verdict of the rule is broken or undecided
abbrev pub HasKeptAlone : RuleCount → Type 0
HasKeptAlone c = (c.broken ≡ 0) × (c.undecided ≡ 0)

-- the count with one verdict more
abbrev pub counted : RuleCount → Verdict → RuleCount
counted c x = record { kept = c.kept + one_if (is_kept x); broken = c.broken + one_if (is_broken x); undecided = c.undecided + one_if (is_undecided x) }
