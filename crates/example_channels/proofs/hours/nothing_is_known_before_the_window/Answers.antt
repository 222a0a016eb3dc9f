use Rattle.std.proofs.Common.{arith, ap, sym, ◌∙◌, ◌∷◌, [], length}
use Rattle.board.proofs.Cases.{colours_fit}
use Rattle.example_channels.proofs.hours.nothing_is_known_before_the_window.Goals as goal

pub possible-seen-requires-clause-colours : goal.possible-seen-requires-clause-colours
possible-seen-requires-clause-colours g c = ap length c.at.ensures ∙ (colours_fit (c.free.result ∷ []) c.in_ok-before.before c.in_ok-after.after 0 (omega arith) c.in_ok-before.ensures.shape c.in_ok-after.ensures.shape ∙ sym (ap length c.at-2.ensures))
