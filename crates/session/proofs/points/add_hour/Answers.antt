use Rattle.std.proofs.Common.{◌++◌, ◌∙◌, ap}
use Rattle.std.specs.Prelude.{◌+◌, option_copied}
use Rattle.signal_log.specs.Log.{log_of}
use Rattle.signal_log.proofs.Suiting.{all_count}
use Rattle.session.proofs.KeptLaws.{has_hour}
use Rattle.session.proofs.GrowLaws.{grow_raised_to}
use Rattle.session.proofs.points.add_hour.Goals as goal

pub returns-in_err-place-clause-grow : goal.returns-in_err-place-clause-grow
returns-in_err-place-clause-grow g c = grow_raised_to _ _ c.args.hour c.open_hour-rows.ensures.raised

pub returns-in_err-cycles-clause-grow : goal.returns-in_err-cycles-clause-grow
returns-in_err-cycles-clause-grow g c = grow_raised_to _ _ c.args.hour c.open_hour-rows.ensures.raised

pub returns-in_err-points-clause-grow : goal.returns-in_err-points-clause-grow
returns-in_err-points-clause-grow g c = grow_raised_to _ _ c.args.hour c.open_hour-rows.ensures.raised

pub returns-in_err-append-clause-grow : goal.returns-in_err-append-clause-grow
returns-in_err-append-clause-grow g c = grow_raised_to _ _ c.args.hour c.open_hour-rows.ensures.raised

pub returns-in_err-add_points-clause-grow : goal.returns-in_err-add_points-clause-grow
returns-in_err-add_points-clause-grow g c = grow_raised_to _ _ c.args.hour c.open_hour-rows.ensures.raised

pub returns-clause-grow : goal.returns-clause-grow
returns-clause-grow g c = grow_raised_to _ _ c.args.hour c.open_hour-rows.ensures.raised

pub returns-clause-cycles : goal.returns-clause-cycles
returns-clause-cycles g c =
    let (at, held, blanked) = c.in_ok-place.ensures in
    let s = c.args.store.now in
    let has = has_hour s c.args.hour (option_copied c.open_hour-rows.result) c.blanked.result.now c.blanked.ensures.store c.requires.in_store c.open_hour-rows.ensures.rows c.blanked.ensures.value in
    c.in_ok-append.ensures.items ∙ ap (λ zs. c.args.found.now.cycles.items ++ zs) ((rw (at, held, blanked) at c.in_ok-cycles.ensures) s has c.requires.before)

pub returns-clause-points : goal.returns-clause-points
returns-clause-points g c =
    let (at, held, blanked) = c.in_ok-place.ensures in
    let s = c.args.store.now in
    let has = has_hour s c.args.hour (option_copied c.open_hour-rows.result) c.blanked.result.now c.blanked.ensures.store c.requires.in_store c.open_hour-rows.ensures.rows c.blanked.ensures.value in
    c.in_ok-add_points.ensures ∙ ap (λ zs. c.args.found.now.points ++ zs) (c.list.ensures ∙ (rw (at, held, blanked) at c.in_ok-points.ensures) s has c.requires.before)

pub points_over-requires : goal.points_over-requires
points_over-requires g c =
    let (at, held, blanked) = c.in_ok-place.ensures in
    let s = c.args.store.now in
    let has = has_hour s c.args.hour (option_copied c.open_hour-rows.result) c.blanked.result.now c.blanked.ensures.store c.requires.in_store c.open_hour-rows.ensures.rows c.blanked.ensures.value in
    let after = all_count (log_of c.args.config.now.specs s) (c.args.hour + 1) c.args.between.now.after.now c.requires.after in
    record { agrees = rw (at, held, blanked) (s, record { has_hour = has; is_before = c.requires.before; is_after = after; history = c.requires.history }) }
