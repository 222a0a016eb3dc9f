use Rattle.decisive.proofs.GrowLaws.{grow_on}
use Rattle.decisive.proofs.window.decisive_window.Goals as goal

pub returns-clause-grow : goal.returns-clause-grow
returns-clause-grow g c = grow_on _ _ _ c.in_ok-moves.ensures.grow c.window_in.ensures.grow
