use Rattle.std.proofs.Common.{arith, ap, sym, ◌∙◌, ◌∷◌, [], length}
use Rattle.board.proofs.Cases.{colours_fit}
use Rattle.example_channels.proofs.points.the_next_hour_is_not_held.Goals as goal

pub possible-seen-requires-clause-colours : goal.possible-seen-requires-clause-colours
possible-seen-requires-clause-colours g c = ap length c.at.ensures ∙ (colours_fit (c.phase.result ∷ []) c.in-Ok-pasts_after.after c.in_ok-end.end 0 (omega arith) c.in-Ok-pasts_after.ensures.shape.0 c.in_ok-end.ensures.shape ∙ sym (ap length c.at-2.ensures))
