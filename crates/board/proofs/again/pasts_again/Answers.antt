use Rattle.std.proofs.Common.{refl, subst, ℕ}
use Rattle.board.specs.Logs.{first_tenth, end_tenth}
use Rattle.board.specs.Places.{AllEarly}
use Rattle.board.proofs.Keeping.{stop_told}
use Rattle.board.proofs.Plain.{stop_within, pasts_early}
use Rattle.board.proofs.Within.{one_hour}
use Rattle.board.proofs.again.pasts_again.Goals as goal

pub pasts_kept-requires-clause-was : goal.pasts_kept-requires-clause-was
pasts_kept-requires-clause-was c = (c.args.was_before.now, c.requires.was, rw c.deref.ensures.value c.in_ok-others.ensures.same)

pub bounds-rows-stop : goal.bounds-rows-stop
bounds-rows-stop c =
    let specs = c.args.specs.now in let rows = c.args.rows.now in let ss = c.args.stretches.now in let before = c.args.before.now in
    let (h, is, early) = c.requires.hour in
    let stop = stop_told specs rows ss h before c.in_ok-after.after.stop is c.in_ok-after.ensures.stop in
    stop_within specs rows ss (first_tenth h) (end_tenth h) c.in-Some.stop before (rw c.in-Some.is at stop)

pub returns-in-Some-clause-stop : goal.returns-in-Some-clause-stop
returns-in-Some-clause-stop c =
    let told = λ (h : ℕ). stop_told c.args.specs.now c.args.rows.now c.args.stretches.now h c.args.before.now c.in_ok-after.after.stop in
    (c.in-Some.stop, refl, λ h is. rw c.in-Some.is at (told h is c.in_ok-after.ensures.stop))

pub returns-clause-pasts : goal.returns-clause-pasts
returns-clause-pasts c =
    λ h is.
    let stop = stop_told c.args.specs.now c.args.rows.now c.args.stretches.now h c.args.before.now c.in_ok-after.after.stop is c.in_ok-after.ensures.stop in
    (rw c.in-None.is at stop, c.in_ok-after.ensures.pasts c.in-None.is h is)

pub returns-clause-shape : goal.returns-clause-shape
returns-clause-shape c = c.in_ok-after.ensures.shape c.in-None.is

pub returns-clause-early : goal.returns-clause-early
returns-clause-early c =
    let specs = c.args.specs.now in let rows = c.args.rows.now in let ss = c.args.stretches.now in let before = c.args.before.now in
    λ h is.
    let early = subst (λ (k : ℕ). AllEarly (first_tenth k) before) (one_hour c.requires.hour.0 h rows ss c.requires.hour.1 is) c.requires.hour.2 in
    pasts_early specs rows ss (first_tenth h) (end_tenth h) before c.in_ok-after.after.pasts (c.in_ok-after.ensures.shape c.in-None.is).0 early (c.in_ok-after.ensures.pasts c.in-None.is h is)
