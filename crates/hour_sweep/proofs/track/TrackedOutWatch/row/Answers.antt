use Rattle.std.proofs.Common.{sym}
use Rattle.hour_sweep.proofs.Tables.{passed_over}
use Rattle.hour_sweep.proofs.track.TrackedOutWatch.row.Goals as goal

pub returns-then-not-wants : goal.returns-then-not-wants
returns-then-not-wants g c = sym (passed_over g.T.Track.wants g.T.Track.step g.T.Track.out_by c.args.self.now c.args.row.now g.T.Track.passes (sym c.if-not-wants.ensures))
