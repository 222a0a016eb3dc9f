use Rattle.board.proofs.Adding.{one_added}
use Rattle.board.proofs.courses.add_row.Goals as goal

pub returns-clause-added : goal.returns-clause-added
returns-clause-added c = λ d. one_added c.args.specs.now c.args.courses.now c.args.row.code c.args.row.param c.args.row.at c.args.number c.in-Some.letter c.in-Some.place c.index-courses-place.result c.add.new.self c.requires.specs c.requires.same c.in-Some.ensures.found.0 c.in-Some.ensures.found.1 c.in_ok-add.ensures d
