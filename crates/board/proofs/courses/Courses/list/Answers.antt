use Rattle.std.proofs.Common.{subst}
use Rattle.board.specs.Courses.{AreCourses, CourseLog}
use Rattle.board.proofs.courses.Courses.list.Goals as goal

pub returns : goal.returns
returns c = rw c.as_slice.ensures.value (subst (λ (x : CourseLog). AreCourses x.specs x.rows x.stretches c.self.inside.list.items) c.self.view_is c.self.invariant)
