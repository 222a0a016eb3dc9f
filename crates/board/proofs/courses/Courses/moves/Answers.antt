use Rattle.std.proofs.Common.{arith, subst, ◌∙◌, ◌<◌, [], length}
use Rattle.std.proofs.lemmas.List.{get_or_default}
use Rattle.board.specs.Courses.{AreCourses, CourseLog}
use Rattle.board.proofs.courses.Courses.moves.Goals as goal

pub returns : goal.returns
returns c = λ d.
    let list = c.self.inside.list.items in
    let are = subst (λ (x : CourseLog). AreCourses x.specs x.rows x.stretches list) c.self.view_is c.self.invariant in
    let within : c.args.spec < length list = (let count = are.0 in let low = c.requires in omega arith) in
    c.moves.ensures ∙ (c.index.ensures ∙ (get_or_default list c.args.spec c.index.result.now [] within ∙ are.1 c.args.spec d c.requires))
