use Rattle.std.proofs.Common.{◌≡◌, ◌+◌, length}
use Rattle.session.specs.Renewed.{AreMarks, IsUnchanged}
use Rattle.session.proofs.marks.marks_of.Given as goal

abbrev pub invariant-loop-hour : goal.invariant-loop-hour
invariant-loop-hour l = record {
  size : l.points.from + length l.marks.items ≡ l.hour;
  marks : AreMarks l.points.from l.marks.items (IsUnchanged l.touched.first l.touched.last l.touched.same.items l.worked.waiting.items l.worked.carries.items l.points.first l.points.carries.items l.worked.futures.items l.points.from l.points.futures.items);
}
