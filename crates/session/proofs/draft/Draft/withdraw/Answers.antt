use Rattle.std.proofs.Common.{◌∙◌, ◌<◌, None, ap, arith, length, refl, sym}
use Rattle.sig_base.specs.Window.{Span}
use Rattle.hour_store.specs.Store.{with_hour}
use Rattle.session.specs.Edits.{step_of, withdraw}
use Rattle.session.specs.Moved.{KeepLines, KeepParts}
use Rattle.session.proofs.EditLaws.{steps_done, withdraw_step}
use Rattle.session.proofs.LessLaws.{never_withdrawn}
use Rattle.session.proofs.MovedLaws.{keep_to, moves_by}
use Rattle.session.proofs.RenewLaws.{none_same, same_but_hour}
use Rattle.session.proofs.draft.Draft.withdraw.Goals as goal

pub returns-clause-step : goal.returns-clause-step
returns-clause-step g c =
    let s = c.self.inside.store in
    let h = c.args.hour in
    let window = ap (λ (w : Span). w.hours) c.window.ensures in
    let has = c.has_hour.ensures.0 c.if-not-has_hour.false in
    let hours = c.self.invariant.hours in
    let lt : h < length s.hours = omega arith in
    let step = withdraw_step s h lt (sym c.is_held.ensures ∙ c.if-not-is_held.false) in
    let done = rw (← c.self.view_is) at c.make.ensures.done in
    let back = rw (← c.self.view_is) at c.make.ensures.back in
    let stop = rw (← c.self.view_is) at c.make.ensures.stop in
    rw (← c.self.view_is) (steps_done c.self.inside.config (step_of s (withdraw h)) s (with_hour s h None) c.make.new.self.store c.make.result step done back stop)

pub returns-clause-never : goal.returns-clause-never
returns-clause-never g c =
    let s = c.self.inside.store in
    let stop = rw (← c.self.view_is) at c.make.ensures.stop in
    let less = rw (← c.self.view_is) at c.make.ensures.store in
    never_withdrawn c.self.inside.config s c.args.hour c.make.result c.self.invariant.sound c.self.invariant.is_store less c.self.invariant.history stop

pub returns-clause-moved : goal.returns-clause-moved
returns-clause-moved g c =
    let s = c.self.inside.store in
    let h = c.args.hour in
    let done = rw (← c.self.view_is) at c.make.ensures.done in
    let moved = rw (← c.self.view_is) at c.make.ensures.moved in
    rw (← c.self.view_is) (moves_by c.self.inside.config s (with_hour s h None) c.make.new.self.store h h (withdraw h) c.make.result (refl, refl) done moved)

pub returns-clause-stays : goal.returns-clause-stays
returns-clause-stays g c =
    let s = c.self.inside.store in
    let h = c.args.hour in
    let done = rw (← c.self.view_is) at c.make.ensures.done in
    let stays = rw (← c.self.view_is) at c.make.ensures.stays in
    rw (← c.self.view_is) (λ plain. keep_to c.self.inside.config (KeepParts c.self.inside.config s) (with_hour s h None) c.make.new.self.store c.make.result done (stays plain))

pub returns-clause-lines : goal.returns-clause-lines
returns-clause-lines g c =
    let s = c.self.inside.store in
    let h = c.args.hour in
    let done = rw (← c.self.view_is) at c.make.ensures.done in
    let lines = rw (← c.self.view_is) at c.make.ensures.lines in
    rw (← c.self.view_is) (keep_to c.self.inside.config (KeepLines c.self.inside.config s) (with_hour s h None) c.make.new.self.store c.make.result done lines)

pub returns-clause-opens : goal.returns-clause-opens
returns-clause-opens g c = c.make.ensures.opens (withdraw c.args.hour) (refl, refl)

pub make-requires-clause-same : goal.make-requires-clause-same
make-requires-clause-same g c = rw (← c.self.view_is) (same_but_hour c.self.inside.store c.args.hour None)

pub make-requires-clause-as_were : goal.make-requires-clause-as_were
make-requires-clause-as_were g c = rw (← c.self.view_is, c.new.ensures.items) (none_same c.self.inside.store (with_hour c.self.inside.store c.args.hour None))
