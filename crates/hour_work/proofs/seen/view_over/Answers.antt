use Rattle.std.proofs.Common.{◌∙◌, ◌+◌, ◌*◌, Bool, List, Option, ap, subst, sym}
use Rattle.sig_base.specs.declared.values.Row.{Row}
use Rattle.gap_map.specs.Stretches.{IsCut, known_in}
use Rattle.board.specs.Courses.{CourseLog}
use Rattle.board.specs.Logs.{hour_log}
use Rattle.board.specs.Places.{IsLog, IsViewOf}
use Rattle.signal_log.specs.Points.{rows_or_none}
use Rattle.signal_log.proofs.Calls.{hour_told}
use Rattle.hour_work.specs.Points.{Carried}
use Rattle.hour_work.specs.Reports.{IsHourBetween}
use Rattle.hour_work.proofs.PointLaws.{held_rows}
use Rattle.rule_audit.proofs.Tracked.{channels_are}
use Rattle.hour_work.proofs.seen.view_over.Goals as goal

pub along-requires-clause-log : goal.along-requires-clause-log
along-requires-clause-log c =
    let o = c.args.place.now in
    let opened = c.stretches.ensures.opened in
    let same = ap (λ (z : CourseLog). z.rows) (c.in_ok-courses.ensures o.stretches opened.cut) in
    let s = c.requires.agrees.0 in
    let is = subst (λ (v : Carried). IsHourBetween c.args.config.now s o.hour v o.rows o.blanks c.args.between.now.after.now) (sym c.before-2.view_is) c.requires.agrees.1 in (
      o.hour,
      record {
        are_specs = rw c.specs.ensures.value (channels_are c.args.config.now c.specs.ensures.sound);
        is_hour = rw (same, c.stretches.ensures.value) (hour_told o.hour o.rows o.blanks o.stretches opened.are_rows opened.cut);
        early = is.is_before.pasts.early;
      },
    )

pub along-requires-clause-before : goal.along-requires-clause-before
along-requires-clause-before c =
    let o = c.args.place.now in
    let s = c.requires.agrees.0 in
    let is = subst (λ (v : Carried). IsHourBetween c.args.config.now s o.hour v o.rows o.blanks c.args.between.now.after.now) (sym c.before-2.view_is) c.requires.agrees.1 in
    rw c.specs.ensures.value is.is_before.pasts.shape

pub along-requires-clause-same_specs : goal.along-requires-clause-same_specs
along-requires-clause-same_specs c = rw c.specs.ensures.value (ap (λ (z : CourseLog). z.specs) (c.in_ok-courses.ensures c.args.place.now.stretches c.stretches.ensures.opened.cut))

pub along-requires-clause-same_stretches : goal.along-requires-clause-same_stretches
along-requires-clause-same_stretches c = rw c.stretches.ensures.value (ap (λ (z : CourseLog). z.stretches) (c.in_ok-courses.ensures c.args.place.now.stretches c.stretches.ensures.opened.cut))

pub returns : goal.returns
returns c = λ s is.
    let cfg = c.args.config.now in
    let o = c.args.place.now in
    let hour = o.hour in
    let rows = rows_or_none o.rows in
    let ss = o.stretches in
    let opened = c.stretches.ensures.opened in
    let x = c.args.between.now.before.now in
    let y = c.args.between.now.after.now in
    let pasts = c.before-2.inside.pasts in
    let aheads = c.after.inside.aheads in
    let held = sym c.is_held.ensures ∙ c.if-not-is_held.false in
    let same = ap (λ (z : CourseLog). z.rows) (c.in_ok-courses.ensures ss opened.cut) in
    let made = rw (c.specs.ensures.value, same, c.stretches.ensures.value) at c.in_ok-view.ensures in
    let own = subst (λ (z : Carried). IsHourBetween cfg s hour z o.rows o.blanks y) (sym c.before-2.view_is) is in
    let log : IsLog (hour_log hour cfg.specs rows ss pasts aheads) = record { are_specs = channels_are cfg c.specs.ensures.sound; is_hour = hour_told hour o.rows o.blanks ss opened.are_rows opened.cut; early = own.is_before.pasts.early } in
    let first : IsViewOf (hour_log hour cfg.specs rows ss pasts aheads) c.in_ok-view.view = record {
      same = made hour log;
      is_log = log;
    } in
    let second : IsViewOf (hour_log hour cfg.specs rows ss pasts y) c.in_ok-view.view = subst (λ a. IsViewOf (hour_log hour cfg.specs rows ss pasts a) c.in_ok-view.view) c.after.view_is first in
    record {
      sound = c.specs.ensures.sound;
      blanks = o.blanks;
      after = y;
      between = subst (λ (r : Option (List Row)). IsHourBetween cfg s hour x r o.blanks y) (held_rows o.rows held) is;
      cut = subst (λ (b : Bool). IsCut (known_in b o.blanks) (36000 * hour) (36000 * hour + 36000) ss) held opened.cut;
      is_view = subst (λ p. IsViewOf (hour_log hour cfg.specs rows ss p y) c.in_ok-view.view) (ap (λ (z : Carried). z.pasts) c.before-2.view_is) second;
    }
