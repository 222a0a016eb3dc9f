use Rattle.std.proofs.Common.{Some, ap, subst}
use Rattle.std.proofs.lemmas.Result.{IfOk-weaker}
use Rattle.hour_store.specs.Store.{Store}
use Rattle.board.specs.Logs.{HourLog}
use Rattle.rule_audit.specs.Lines.{AreLines, IsAudited}
use Rattle.rule_audit.specs.Rules.{rules_for}
use Rattle.signal_log.specs.Points.{rows_or_none}
use Rattle.hour_work.specs.Points.{Carried}
use Rattle.hour_work.specs.Verdicts.{AreAuditLines}
use Rattle.hour_work.specs.Reports.{IsSeenBy}
use Rattle.hour_work.proofs.PointLaws.{unheld_lines}
use Rattle.hour_work.proofs.SeenLaws.{seen_audited, seen_lines, seen_log}
use Rattle.hour_work.proofs.seen.lines_over.Goals as goal

pub audit_rows-requires-clause-view : goal.audit_rows-requires-clause-view
audit_rows-requires-clause-view c =
    let (s, any) = c.requires.seen in
    let seen = rw c.in-Some.is at any in
    let hour = c.args.place.now.hour in (
      seen_log c.args.config.now s hour c.args.before.now (rows_or_none c.args.place.now.rows) c.args.place.now.stretches c.in-Some.view.now seen,
      rw (c.rows-rows.ensures.value, c.stretches-parts.ensures.value) (seen_audited c.args.config.now s hour c.args.before.now (rows_or_none c.args.place.now.rows) c.args.place.now.stretches c.in-Some.view.now seen),
    )

pub returns-in-Some : goal.returns-in-Some
returns-in-Some c =
    let cfg = c.args.config.now in
    let o = c.args.place.now in
    let before = c.args.before.now in
    let rows = rows_or_none o.rows in
    let ss = o.stretches in
    let view = c.in-Some.view.now in
    let flag = ap (λ (v : Carried). v.known) c.before-2.view_is in
    rw c.in-Some.is (IfOk-weaker c.audit_rows.result
    (λ v. (l : HourLog) → IsAudited cfg view rows ss l → AreLines l (rules_for cfg) c.before-2.inside.known v.items)
    (λ v. (s : Store) → IsSeenBy cfg s o before (Some view) → AreAuditLines cfg s o.hour v.items)
    (λ v h s seen.
    let log = seen_log cfg s o.hour before rows ss view seen in
    seen_lines cfg s o.hour before rows ss view seen v.items (subst (λ b. AreLines log (rules_for cfg) b v.items) flag (h log (seen_audited cfg s o.hour before rows ss view seen))))
    (rw (c.requires.rules, c.rows-rows.ensures.value, c.stretches-parts.ensures.value) at c.audit_rows.ensures))

pub returns-in-None : goal.returns-in-None
returns-in-None c = λ s none. rw c.new.ensures.items (unheld_lines c.args.config.now s c.args.place.now.hour (rw c.in-None.is at none))
