use Rattle.std.proofs.Common.{◌≡◌, ◌∙◌, ◌/◌, arith, ap, sym, subst, inl, inr, ℕ, false, get_or}
use Rattle.std.proofs.lemmas.Bool.{cases_eq}
use Rattle.std.proofs.lemmas.List.{get_or_default}
use Rattle.rule_audit.specs.declared.lines.AuditLine.{AuditLine}
use Rattle.hour_work.specs.Counts.{is_broken}
use Rattle.session.proofs.WindowLaws.{no_line, not_broken}
use Rattle.session.proofs.audit.broken_hour.Goals as goal

pub returns-in-Broken : goal.returns-in-Broken
returns-in-Broken c =
    let lines = c.args.lines.now in
    let i = c.loop-line.line-index in
    let lt = c.loop-line-test.true in (
      i,
      lt,
      λ d.
          let e = get_or_default lines i d no_line lt in
          (ap (λ (l : AuditLine). is_broken l.verdict) e ∙ ap is_broken c.in-Broken.is, ap (λ (l : AuditLine). l.at / 36000) e),
    )

pub loop-line-preserved : goal.loop-line-preserved
loop-line-preserved c = λ i d lt. elim (cases_eq i c.loop-line.line-index) [
  | inl same ↦
      let e = get_or_default c.args.lines.now c.loop-line.line-index d no_line c.loop-line-test.true in
      let here = ap (λ (l : AuditLine). is_broken l.verdict) e ∙ not_broken (get_or c.args.lines.now c.loop-line.line-index no_line).verdict c.in-Idle.is in
      subst (λ (j : ℕ). is_broken (get_or c.args.lines.now j d).verdict ≡ false) (sym same) here
  | inr ne ↦ c.loop-line.invariant i d (omega arith)
]
