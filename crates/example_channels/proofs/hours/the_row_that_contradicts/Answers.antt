use Rattle.std.proofs.Common.{arith, refl, ap, sym, ◌∙◌, ◌∷◌, [], length}
use Rattle.board.proofs.Cases.{whole_hour, start_early, colours_fit}
use Rattle.example_channels.proofs.hours.the_row_that_contradicts.Goals as goal

pub pasts_hour-requires-clause-hour : goal.pasts_hour-requires-clause-hour
pasts_hour-requires-clause-hour g c = (
  0,
  rw (c.row.ensures, c.row-2.ensures, c.stretch.ensures) (whole_hour _ _ _ (omega arith) (omega arith) refl refl),
  start_early (c.free.result ∷ []) c.in_ok-before.before c.in_ok-before.ensures.shape c.in_ok-before.ensures.states,
)

pub possible-requires-clause-colours : goal.possible-requires-clause-colours
possible-requires-clause-colours g c = ap length c.at.ensures ∙ (colours_fit (c.free.result ∷ []) c.in_ok-before.before c.in_ok-aheads.aheads 0 (omega arith) c.in_ok-before.ensures.shape c.in_ok-aheads.ensures.shape ∙ sym (ap length c.at-2.ensures))
