use Rattle.std.proofs.Common.{subst, sym}
use Rattle.board.specs.Places.{AreAheadsOf}
use Rattle.board.specs.Stops.{AreBefore}
use Rattle.hour_work.specs.Points.{Carried}
use Rattle.session.specs.Links.{Ahead}
use Rattle.session.proofs.renew.start_of.Goals as goal

pub same_for-requires : goal.same_for-requires
same_for-requires c =
    let carry = c.index.result.now in
    let kept = c.index-kept.result.now in
    let new = rw c.as_slice.ensures.value at c.pick-next.ensures in
    let (specs, before, own, other) = c.requires.shape c.loop-hour.hour carry kept c.loop-hour-test.true in
    record {
      shape = (
        specs,
        subst (λ (v : Carried). AreBefore specs v.pasts) (sym c.index.ensures) before,
        subst (λ (v : Ahead). AreAheadsOf specs v) (sym c.index-kept.ensures) own,
        subst (λ (v : Ahead). AreAheadsOf specs v) (sym (new kept)) other,
      );
    }
