use Rattle.std.proofs.Common.{subst, sym}
use Rattle.board.specs.Places.{AreAheadsOf}
use Rattle.board.specs.Stops.{AreBefore}
use Rattle.hour_work.specs.Points.{Carried}
use Rattle.session.specs.Links.{Ahead}
use Rattle.session.proofs.marks.waits_then.Goals as goal

pub same_for-requires : goal.same_for-requires
same_for-requires c =
    let after = rw (c.as_slice-kept.ensures.value, c.as_slice-fresh.ensures.value) at c.pick-after.ensures in
    let next = rw (c.as_slice-ahead.ensures.value, c.as_slice.ensures.value) at c.pick-next.ensures in
    let there = rw c.as_slice-ahead.ensures.value at c.index-ahead-place.is in
    let carry = c.pick-after.result.now in
    let kept = c.index-ahead-place.result in
    let (specs, before, own, other) = c.requires.shape carry kept in
    record {
      shape = (
        specs,
        subst (λ (v : Carried). AreBefore specs v.pasts) (sym (after carry)) before,
        subst (λ (v : Ahead). AreAheadsOf specs v) (sym there) own,
        subst (λ (v : Ahead). AreAheadsOf specs v) (sym (next kept)) other,
      );
    }
