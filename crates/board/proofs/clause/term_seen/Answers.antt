use Rattle.std.proofs.Common.{refl}
use Rattle.board.proofs.Verdicts.{term_sees}
use Rattle.board.proofs.clause.term_seen.Goals as goal

pub returns-then-channel-cursors-clause-sees : goal.returns-then-channel-cursors-clause-sees
returns-then-channel-cursors-clause-sees c = λ known. term_sees c.args.view.now c.args.at c.args.term _ c.seen_at_end.result refl refl (c.seen_at_end.ensures known)

pub returns-clause-sees : goal.returns-clause-sees
returns-clause-sees c = λ known. term_sees c.args.view.now c.args.at c.args.term _ c.seen_from-place.result.0 refl refl (c.seen_from-place.ensures known)
