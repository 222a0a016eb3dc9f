use Rattle.std.proofs.Common.{List, Option, subst}
use Rattle.std.specs.Prelude.{◌+◌, IfOk, option_copied}
use Rattle.sig_base.specs.declared.values.Row.{Row}
use Rattle.span_set.specs.declared.set.Span.{Span}
use Rattle.signal_log.specs.Log.{log_of}
use Rattle.signal_log.proofs.Suiting.{all_count}
use Rattle.session.specs.Links.{Counts}
use Rattle.session.proofs.KeptLaws.{has_hour}
use Rattle.session.proofs.OpenLaws.{opened_raised}
use Rattle.session.proofs.steps.part_between.Goals as goal

pub returns-in_err-place-clause-once : goal.returns-in_err-place-clause-once
returns-in_err-place-clause-once g c = opened_raised _ _ c.args.hour c.open_hour-rows.ensures.raised

pub returns-clause-once : goal.returns-clause-once
returns-clause-once g c = opened_raised _ _ c.args.hour c.open_hour-rows.ensures.raised

pub partial_over-requires-clause-agrees : goal.partial_over-requires-clause-agrees
partial_over-requires-clause-agrees g c =
    let (at, held, blanked) = c.in_ok-place.ensures in
    let s = c.args.store.now in
    let has = has_hour s c.args.hour (option_copied c.open_hour-rows.result) c.blanked.result.now c.blanked.ensures.store c.requires.in_store c.open_hour-rows.ensures.rows c.blanked.ensures.value in
    let after = all_count (log_of c.args.config.now.specs s) (c.args.hour + 1) c.args.between.now.after.now c.requires.after in
    rw (at, held, blanked) (s, record { has_hour = has; is_before = c.requires.before; is_after = after; history = c.requires.history })

pub returns-clause-counts : goal.returns-clause-counts
returns-clause-counts g c =
    let (at, held, blanked) = c.in_ok-place.ensures in
    let cfg = c.args.config.now in
    let x = c.args.between.now.before.now in
    let y = c.args.between.now.after.now in
    subst (λ (o : Option (List Row)). IfOk c.partial_over.result (Counts cfg c.args.hour o c.args.store.now.blanks x y)) c.open_hour-rows.ensures.rows
    (subst (λ (bs : List Span). IfOk c.partial_over.result (Counts cfg c.args.hour (option_copied c.open_hour-rows.result) bs x y)) c.blanked.ensures.value (rw (at, held, blanked) at c.partial_over.ensures.value))
