use Rattle.std.proofs.Common.{◌<◌, arith, length}
use Rattle.std.proofs.lemmas.Result.{IfOk-weaker}
use Rattle.signal_log.specs.Log.{log_of}
use Rattle.signal_log.specs.Points.{ArePastsAt}
use Rattle.hour_work.specs.Verdicts.{AreAuditLines}
use Rattle.session.specs.HourLines.{AreWindowed}
use Rattle.session.specs.Windows.{AreHourLines}
use Rattle.session.proofs.GrowLaws.{grow_on}
use Rattle.session.proofs.KeptLaws.{carry_is}
use Rattle.session.proofs.WindowLaws.{hour_lines, lines_in}
use Rattle.session.proofs.draft.Draft.audit_hour.Goals as goal

pub with_windows-requires-clause-lines : goal.with_windows-requires-clause-lines
with_windows-requires-clause-lines g c =
    let cfg = c.self.inside.config in
    let s = c.self.inside.store in
    let b = c.self.invariant in
    let lt : c.args.hour < length s.hours = rw (← c.self.view_is) at c.requires in
    let carry = carry_is cfg s c.self.inside.worked.carries.items c.args.hour c.index.result.now b.is_store b.kept.forth (omega arith) c.index.ensures in
    let past : ArePastsAt (log_of cfg.specs s) c.args.hour c.pasts-before.result.now = rw c.pasts-before.ensures carry.pasts in
    let are : AreAuditLines cfg s c.args.hour c.deref-3.result.now = rw c.deref-3.ensures.value c.in_ok-plain.ensures.lines in
    (c.args.hour, record { pasts = past; each = lines_in cfg s c.args.hour lt c.deref-3.result.now b.sound are })

pub returns-clause-lines : goal.returns-clause-lines
returns-clause-lines g c =
    let cfg = c.self.inside.config in
    let s = c.self.inside.store in
    let b = c.self.invariant in
    let lt : c.args.hour < length s.hours = rw (← c.self.view_is) at c.requires in
    let carry = carry_is cfg s c.self.inside.worked.carries.items c.args.hour c.index.result.now b.is_store b.kept.forth (omega arith) c.index.ensures in
    let past : ArePastsAt (log_of cfg.specs s) c.args.hour c.pasts-before.result.now = rw c.pasts-before.ensures carry.pasts in
    let plain = c.deref-3.result.now in
    let are : AreAuditLines cfg s c.args.hour plain = rw c.deref-3.ensures.value c.in_ok-plain.ensures.lines in
    let all = lines_in cfg s c.args.hour lt plain b.sound are in
    let whole = IfOk-weaker c.with_windows.result
    (λ v. AreWindowed cfg s c.pasts-before.result.now plain v.items)
    (λ v. AreHourLines cfg s c.args.hour c.args.windows v.items)
    (λ v h. hour_lines cfg s c.args.hour c.args.windows plain v.items c.if-not-windows.false are (h c.args.hour (record { pasts = past; each = all })))
    c.with_windows.ensures.windows in
    rw (← c.self.view_is) whole

pub returns-clause-grow : goal.returns-clause-grow
returns-clause-grow g c = grow_on _ _ _ c.in_ok-plain.ensures.grow c.with_windows.ensures.grow
