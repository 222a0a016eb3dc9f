use Rattle.std.proofs.Common.{◌≡◌, drop, length, rules}
use Rattle.std.proofs.lemmas.Result.{IfOk-weaker}
use Rattle.board.specs.Courses.{AreCoursesAmong, AreCoursesFrom}
use Rattle.board.proofs.Among.{courses_among, none_among}
use Rattle.board.proofs.again.courses_among.Goals as goal

pub returns-then-is_empty : goal.returns-then-is_empty
returns-then-is_empty c =
    let none : length c.in_ok-few.few.items ≡ 0 = search rules in
    rw (c.new.ensures.items) (none_among c.args.specs.now c.args.wanted.now c.in_ok-few.few.items c.args.first (drop c.args.first c.args.rows.now) c.args.stretches.now none c.in_ok-few.ensures.places)

pub returns : goal.returns
returns c =
    let specs = c.args.specs.now in let wanted = c.args.wanted.now in let few = c.in_ok-few.few.items in let n = c.args.first in let rows = drop n c.args.rows.now in let ss = c.args.stretches.now in
    IfOk-weaker c.courses_from.result (λ v. AreCoursesFrom few n rows ss v.items) (λ v. AreCoursesAmong specs wanted n rows ss v.items) (λ v are. courses_among specs wanted few n rows ss v.items c.in_ok-few.ensures.places are) (rw c.deref.ensures.value at c.courses_from.ensures)
