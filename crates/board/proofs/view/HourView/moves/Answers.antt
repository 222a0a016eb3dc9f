use Rattle.std.proofs.Common.{◌∙◌}
use Rattle.board.proofs.Viewing.{path_at}
use Rattle.board.proofs.view.HourView.moves.Goals as goal

pub returns-clause-moves : goal.returns-clause-moves
returns-clause-moves c = λ d. let is = rw c.self.view_is at c.self.invariant.0 in c.moves.ensures ∙ (path_at c.args.self.now c.self.inside.paths.items c.args.spec d c.index.result.now is c.index.ensures c.requires.spec).same_moves
