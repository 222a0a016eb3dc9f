use Rattle.std.proofs.Common.{ap, refl, subst, ℕ}
use Rattle.board.specs.Courses.{CourseLog}
use Rattle.board.specs.Logs.{first_tenth, end_tenth}
use Rattle.board.specs.Places.{AllEarly}
use Rattle.board.proofs.Keeping.{stop_told}
use Rattle.board.proofs.Plain.{stop_within, pasts_early}
use Rattle.board.proofs.Within.{one_hour}
use Rattle.board.proofs.pasts.pasts_along.Goals as goal

pub bounds-rows-stop : goal.bounds-rows-stop
bounds-rows-stop c =
    let specs = c.args.specs.now in let rows = c.args.rows.now in let ss = c.args.stretches.now in let before = c.args.before.now in
    let (h, is, early) = c.requires.hour in
    let stop = stop_told specs rows ss h before c.in_ok-after.after.stop is (rw (ap (λ (x : CourseLog). x.rows) c.requires.courses) at c.in_ok-after.ensures.stop) in
    stop_within specs rows ss (first_tenth h) (end_tenth h) c.in-Some.stop before (rw c.in-Some.is at stop)

pub returns-in-Some-clause-stop : goal.returns-in-Some-clause-stop
returns-in-Some-clause-stop c =
    let told = λ (h : ℕ). stop_told c.args.specs.now c.args.rows.now c.args.stretches.now h c.args.before.now c.in_ok-after.after.stop in
    (c.in-Some.stop, refl, λ h is. rw c.in-Some.is at (told h is (rw (ap (λ (x : CourseLog). x.rows) c.requires.courses) at c.in_ok-after.ensures.stop)))

pub returns-in-None-clause-pasts : goal.returns-in-None-clause-pasts
returns-in-None-clause-pasts c =
    λ h is.
    let same = ap (λ (x : CourseLog). x.rows) c.requires.courses in
    let stop = stop_told c.args.specs.now c.args.rows.now c.args.stretches.now h c.args.before.now c.in_ok-after.after.stop is (rw same at c.in_ok-after.ensures.stop) in
    (rw c.in-None.is at stop, (rw same at c.in_ok-after.ensures.pasts) c.in-None.is h is)

pub returns-in-None-clause-shape : goal.returns-in-None-clause-shape
returns-in-None-clause-shape c = c.in_ok-after.ensures.shape c.in-None.is

pub returns-in-None-clause-early : goal.returns-in-None-clause-early
returns-in-None-clause-early c =
    let specs = c.args.specs.now in let rows = c.args.rows.now in let ss = c.args.stretches.now in let before = c.args.before.now in
    λ h is.
    let same = ap (λ (x : CourseLog). x.rows) c.requires.courses in
    let early = subst (λ (k : ℕ). AllEarly (first_tenth k) before) (one_hour c.requires.hour.0 h rows ss c.requires.hour.1 is) c.requires.hour.2 in
    pasts_early specs rows ss (first_tenth h) (end_tenth h) before c.in_ok-after.after.pasts (c.in_ok-after.ensures.shape c.in-None.is).0 early ((rw same at c.in_ok-after.ensures.pasts) c.in-None.is h is)
