-- How the lines of verdicts follow one another.
use Rattle.std.proofs.Common.{◌≡◌, ◌<◌, ◌≤◌, ◌+◌, ◌++◌, ◌∷◌, [], ℕ, List, None, length, drop, get_or, refl, add-one}
use Rattle.std.proofs.Math.Seq.{drop-cons}
use Rattle.std.proofs.lemmas.List.{drop_all}
use Rattle.sig_base.specs.Window.{Span}
use Rattle.sig_base.specs.declared.values.Verdict.TheVariants.{Idle}
use Rattle.rule_audit.specs.declared.lines.AuditLine.{AuditLine}
use Rattle.rule_audit.specs.declared.lines.Place.TheVariants.{BeforeRow}
use Rattle.report_text.specs.Audit.{audit_line_text, lines_text}

-- stands where a list has no line
abbrev pub no_line : AuditLine
no_line = record { rule = 0; at = 0; place = BeforeRow 0; verdict = Idle; window = None }

pub lines_next : (w : Span) (lines : List AuditLine) (i : ℕ) → i < length lines
    → lines_text w (drop i lines) ≡ audit_line_text w (get_or lines i no_line) ++ lines_text w (drop (i + 1) lines)
unfolding lines_text
lines_next w lines i h =
    let e : drop i lines ≡ get_or lines i no_line ∷ drop (i + 1) lines = rw add-one (drop-cons lines i no_line h) in
    rw e refl

pub lines_over : (w : Span) (lines : List AuditLine) (i : ℕ) → length lines ≤ i → lines_text w (drop i lines) ≡ []
unfolding lines_text
lines_over w lines i h = rw (drop_all i lines h) refl
