-- The lines of an audit.
use Rattle.std.specs.Prelude.{◌++◌, ◌+◌, ◌*◌, ◌<◌, ◌==◌, ◌&&◌, if◌then◌else◌, Bool, ℕ, List, [], ◌∷◌, Option, Some, None, codes, decimal, slice_index_or, ⊤}
use Rattle.std.specs.Option.{option_map_or}
use Rattle.sig_base.specs.Stamp.{stamp_at}
use Rattle.sig_base.specs.Window.{Span}
use Rattle.sig_base.specs.declared.values.Verdict.{Verdict}
use Rattle.sig_base.specs.declared.values.Verdict.TheVariants.{Idle, Kept, Broken, Undecided}
use Rattle.channel_tables.specs.declared.spec.Spec.{Spec}
use Rattle.rule_audit.specs.declared.lines.AuditLine.{AuditLine}
use Rattle.rule_audit.specs.declared.rules.Rule.{Rule}
use Rattle.hour_work.specs.declared.counts.RuleCount.{RuleCount}
use Rattle.report_text.specs.Line.{line_of, num}
use Rattle.report_text.specs.Rules.{joined, rule_name}

-- ---- counts

-- the line of the rule of this number: its name, and how many verdicts of each kind it has, if any
abbrev pub rule_line : List Spec → ℕ → Rule → RuleCount → List ℕ
rule_line specs number rule n =
    if n.kept == 0 && (n.broken == 0 && n.undecided == 0) then []
    else joined (num "rule " number ∷ codes " " ∷ []) ++ (rule_name specs rule ++ line_of (num " kept " n.kept ∷ num " broken " n.broken ∷ num " undecided " n.undecided ∷ []))

-- the lines of these rules, of which the first is at place i of all, from 0; a rule's number is its place from 1
unfoldable pub counts_from : List Spec → List RuleCount → ℕ → List Rule → List ℕ
counts_from specs counts i [] = []
counts_from specs counts i (r ∷ rs) =
    rule_line specs (i + 1) r (slice_index_or counts i (record { kept = 0; broken = 0; undecided = 0 })) ++ counts_from specs counts (i + 1) rs

-- ---- verdicts

-- the line of a verdict: this word, the number of the rule, when, and from when to when its window lasts, where it has one
abbrev pub verdict_text : Span → List ℕ → AuditLine → List ℕ
verdict_text w word l =
    joined (word ∷ decimal l.rule ∷ codes " " ∷ stamp_at w l.at ∷ [])
    ++ option_map_or (λ ends. line_of (codes " from " ∷ stamp_at w ends.0 ∷ codes " to " ∷ stamp_at w ends.1 ∷ [])) l.window (line_of [])

-- the line of a verdict by what it is; an idle one has none
abbrev pub text_by : Verdict → Span → AuditLine → List ℕ
text_by Idle w l = []
text_by Kept w l = verdict_text w (codes "kept ") l
text_by Broken w l = verdict_text w (codes "broken ") l
text_by Undecided w l = verdict_text w (codes "undecided ") l

-- the lines of these verdicts in their order
unfoldable pub lines_text : Span → List AuditLine → List ℕ
lines_text w [] = []
lines_text w (l ∷ ls) = text_by l.verdict w l ++ lines_text w ls

-- the head of an audit, in answer to line n of a script, and how many verdicts each rule has
abbrev pub audit_start : ℕ → List Spec → List Rule → List RuleCount → List ℕ
audit_start n specs rules counts = line_of (decimal n ∷ codes " audit" ∷ []) ++ counts_from specs counts 0 rules

-- ---- For contracts alone: parts of these texts as the code writes them, and what they need

-- the counts of a rule without a verdict
abbrev pub none_counted : RuleCount
none_counted = record { kept = 0; broken = 0; undecided = 0 }

-- the rule has no verdict
abbrev pub is_none_counted : RuleCount → Bool
is_none_counted n = n.kept == 0 && (n.broken == 0 && n.undecided == 0)

-- the begin of a rule's line
abbrev pub rule_head : ℕ → List ℕ
rule_head number = joined (codes "rule " ∷ decimal number ∷ codes " " ∷ [])

-- the end of a rule's line: how many verdicts of each kind
abbrev pub counts_tail : RuleCount → List ℕ
counts_tail n = line_of (codes " kept " ∷ decimal n.kept ∷ codes " broken " ∷ decimal n.broken ∷ codes " undecided " ∷ decimal n.undecided ∷ [])

-- a line for each rule that has verdicts
abbrev pub counts_text : List Spec → List Rule → List RuleCount → List ℕ
counts_text specs rules counts = counts_from specs counts 0 rules

-- the begin of a verdict's line: the word, the number of the rule, and when
abbrev pub due_text : Span → List ℕ → AuditLine → List ℕ
due_text w word l = joined (word ∷ decimal l.rule ∷ codes " " ∷ stamp_at w l.at ∷ [])

-- the end of a verdict's line
abbrev pub window_text : Span → Option (ℕ × ℕ) → List ℕ
window_text w o = option_map_or (λ ends. line_of (codes " from " ∷ stamp_at w ends.0 ∷ codes " to " ∷ stamp_at w ends.1 ∷ [])) o (line_of [])

-- the line of one verdict; an idle one has none
abbrev pub audit_line_text : Span → AuditLine → List ℕ
audit_line_text w l = text_by l.verdict w l

-- the ends of a verdict's window are in the window of the configuration
abbrev pub EndIn : Span → Option (ℕ × ℕ) → Type 0
EndIn w None = ⊤
EndIn w (Some ends) = (ends.0 < 36000 * w.hours) × (ends.1 < 36000 * w.hours)

-- the tenths of a verdict's line are in the window of the configuration
pub record IsLineIn (w : Span) (l : AuditLine) : Type 0 where
  pub at : l.at < 36000 * w.hours
  pub ends : EndIn w l.window
