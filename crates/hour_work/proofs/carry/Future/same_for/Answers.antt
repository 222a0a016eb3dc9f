use Rattle.std.proofs.Common.{List, Option, ℤ, subst, sym}
use Rattle.board.specs.Places.{AreAheadsOf}
use Rattle.board.specs.Stops.{AreBefore}
use Rattle.hour_work.specs.Points.{Carried}
use Rattle.hour_work.proofs.carry.Future.same_for.Goals as goal

pub same_for-requires : goal.same_for-requires
same_for-requires c =
    let (specs, before, own, other) = c.requires.shape in record {
      shape = (
        specs,
        subst (λ (v : Carried). AreBefore specs v.pasts) (sym c.carry.view_is) before,
        subst (λ (v : List (List (Option ℤ))). AreAheadsOf specs v) (sym c.self.view_is) own,
        subst (λ (v : List (List (Option ℤ))). AreAheadsOf specs v) (sym c.other.view_is) other,
      );
    }
