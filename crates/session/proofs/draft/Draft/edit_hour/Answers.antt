-- proofs/session/Session/edit_hour/Answers.antt
use Rattle.std.proofs.Common.{◌∙◌, ◌<◌, ◌≤◌, Some, ap, arith, length, sym}
use Rattle.sig_base.specs.Window.{Span}
use Rattle.hour_store.specs.Store.{rows_held, with_hour}
use Rattle.session.specs.Edits.{hour_change, step_of}
use Rattle.session.specs.Moved.{KeepLines, KeepParts}
use Rattle.session.proofs.EditLaws.{steps_done}
use Rattle.session.proofs.HourEditLaws.{held_alike, hour_step, hour_touches}
use Rattle.session.proofs.MovedLaws.{keep_to, moves_by}
use Rattle.session.proofs.RenewLaws.{none_same, same_but_hour}
use Rattle.session.proofs.draft.Draft.edit_hour.Goals as goal

pub returns-clause-step : goal.returns-clause-step
returns-clause-step g c =
    let s = c.self.inside.store in
    let r = c.args.rows in
    let h = c.hour-hour.result in
    let window = ap (λ (w : Span). w.hours) c.window.ensures in
    let has = c.has_hour.ensures.0 c.if-not-has_hour.false in
    let hours = c.self.invariant.hours in
    let lt : h < length s.hours = omega arith in
    let count = c.rows_with.ensures r (sym c.len.ensures) in
    let most = c.if-rows_with-gt-MOST_ROWS.false in
    let few : rows_held (with_hour s h (Some r)) ≤ 20000000 = omega arith in
    let step = hour_step c.args.replaces s r h c.hour-hour.ensures.value lt (sym c.is_held.ensures ∙ held_alike c.is_held.result c.args.replaces c.if-is_held-replaces.false) few in
    let done = rw (← c.self.view_is) at c.make.ensures.done in
    let back = rw (← c.self.view_is) at c.make.ensures.back in
    let stop = rw (← c.self.view_is) at c.make.ensures.stop in
    rw (← c.self.view_is) (steps_done c.self.inside.config (step_of s (hour_change c.args.replaces r)) s (with_hour s h (Some r)) c.make.new.self.store c.make.result step done back stop)

pub returns-clause-moved : goal.returns-clause-moved
returns-clause-moved g c =
    let s = c.self.inside.store in
    let h = c.hour-hour.result in
    let here = hour_touches c.args.replaces c.args.rows h c.hour-hour.ensures.value in
    let done = rw (← c.self.view_is) at c.make.ensures.done in
    let moved = rw (← c.self.view_is) at c.make.ensures.moved in
    rw (← c.self.view_is) (moves_by c.self.inside.config s (with_hour s h (Some c.args.rows)) c.make.new.self.store h h (hour_change c.args.replaces c.args.rows) c.make.result here done moved)

pub returns-clause-stays : goal.returns-clause-stays
returns-clause-stays g c =
    let s = c.self.inside.store in
    let h = c.hour-hour.result in
    let done = rw (← c.self.view_is) at c.make.ensures.done in
    let stays = rw (← c.self.view_is) at c.make.ensures.stays in
    rw (← c.self.view_is) (λ plain. keep_to c.self.inside.config (KeepParts c.self.inside.config s) (with_hour s h (Some c.args.rows)) c.make.new.self.store c.make.result done (stays plain))

pub returns-clause-lines : goal.returns-clause-lines
returns-clause-lines g c =
    let s = c.self.inside.store in
    let h = c.hour-hour.result in
    let done = rw (← c.self.view_is) at c.make.ensures.done in
    let lines = rw (← c.self.view_is) at c.make.ensures.lines in
    rw (← c.self.view_is) (keep_to c.self.inside.config (KeepLines c.self.inside.config s) (with_hour s h (Some c.args.rows)) c.make.new.self.store c.make.result done lines)

pub returns-clause-opens : goal.returns-clause-opens
returns-clause-opens g c = c.make.ensures.opens (hour_change c.args.replaces c.args.rows) (hour_touches c.args.replaces c.args.rows c.hour-hour.result c.hour-hour.ensures.value)

pub make-requires-clause-same : goal.make-requires-clause-same
make-requires-clause-same g c = rw (← c.self.view_is) (same_but_hour c.self.inside.store c.hour-hour.result (Some c.args.rows))

pub make-requires-clause-as_were : goal.make-requires-clause-as_were
make-requires-clause-as_were g c = rw (← c.self.view_is, c.new.ensures.items) (none_same c.self.inside.store (with_hour c.self.inside.store c.hour-hour.result (Some c.args.rows)))
