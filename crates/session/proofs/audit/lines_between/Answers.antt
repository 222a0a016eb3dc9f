use Rattle.std.specs.Prelude.{◌+◌, option_copied}
use Rattle.std.proofs.lemmas.Result.{IfOk-weaker}
use Rattle.hour_store.specs.Store.{Store}
use Rattle.signal_log.specs.Log.{log_of}
use Rattle.signal_log.proofs.Suiting.{all_count}
use Rattle.hour_work.specs.Verdicts.{AreAuditLines}
use Rattle.hour_work.specs.Reports.{IsHourBetween}
use Rattle.session.proofs.KeptLaws.{has_hour}
use Rattle.session.proofs.GrowLaws.{grow_raised_to}
use Rattle.session.proofs.audit.lines_between.Goals as goal

pub returns-in_err-place-clause-grow : goal.returns-in_err-place-clause-grow
returns-in_err-place-clause-grow g c = grow_raised_to _ _ c.args.hour c.open_hour-rows.ensures.raised

pub returns-clause-grow : goal.returns-clause-grow
returns-clause-grow g c = grow_raised_to _ _ c.args.hour c.open_hour-rows.ensures.raised

pub audit_over-requires-clause-agrees : goal.audit_over-requires-clause-agrees
audit_over-requires-clause-agrees g c =
    let (at, held, blanked) = c.in_ok-place.ensures in
    let has = has_hour c.args.store.now c.args.hour (option_copied c.open_hour-rows.result) c.blanked.result.now c.blanked.ensures.store c.requires.in_store c.open_hour-rows.ensures.rows c.blanked.ensures.value in
    let after = all_count (log_of c.args.config.now.specs c.args.store.now) (c.args.hour + 1) c.args.between.now.after.now c.requires.after in
    rw (at, held, blanked) (c.args.store.now, record { has_hour = has; is_before = c.requires.before; is_after = after; history = c.requires.history })

pub returns-clause-lines : goal.returns-clause-lines
returns-clause-lines g c =
    let (at, held, blanked) = c.in_ok-place.ensures in
    let cfg = c.args.config.now in
    let s = c.args.store.now in
    let rows = option_copied c.open_hour-rows.result in
    let has = has_hour s c.args.hour rows c.blanked.result.now c.blanked.ensures.store c.requires.in_store c.open_hour-rows.ensures.rows c.blanked.ensures.value in
    let after = all_count (log_of cfg.specs s) (c.args.hour + 1) c.args.between.now.after.now c.requires.after in
    IfOk-weaker c.audit_over.result
    (λ v. (s : Store) → IsHourBetween cfg s c.args.hour c.args.between.now.before.now rows c.blanked.result.now c.args.between.now.after.now → AreAuditLines cfg s c.args.hour v.items)
    (λ v. AreAuditLines cfg s c.args.hour v.items)
    (λ v h. h s (record { has_hour = has; is_before = c.requires.before; is_after = after; history = c.requires.history }))
    (rw (at, held, blanked) at c.audit_over.ensures)
