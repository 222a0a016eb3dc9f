use Rattle.std.proofs.Common.{arith, ap, sym, ◌∙◌, ◌∷◌, [], length}
use Rattle.board.proofs.Cases.{colours_fit}
use Rattle.example_channels.proofs.points.yellow_in_the_next_hour.Goals as goal

pub possible-requires-clause-colours : goal.possible-requires-clause-colours
possible-requires-clause-colours g c = ap length c.at.ensures ∙ (colours_fit (c.phase.result ∷ []) c.in-Ok.before c.in_ok-aheads.aheads 0 (omega arith) c.in-Ok.ensures.shape.0 c.in_ok-aheads.ensures.shape ∙ sym (ap length c.at-2.ensures))

pub possible-requires-2-clause-colours : goal.possible-requires-2-clause-colours
possible-requires-2-clause-colours g c = ap length c.at-3.ensures ∙ (colours_fit (c.phase.result ∷ []) c.in-Ok-pasts_after.after c.in_ok-end.end 0 (omega arith) c.in-Ok-pasts_after.ensures.shape.0 c.in_ok-end.ensures.shape ∙ sym (ap length c.at-4.ensures))
