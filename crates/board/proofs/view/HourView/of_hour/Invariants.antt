use Rattle.std.proofs.Common.{◌≡◌, length}
use Rattle.board.specs.Logs.{hour_log}
use Rattle.board.specs.Places.{ArePaths}
use Rattle.board.proofs.view.HourView.of_hour.Given as goal

abbrev pub invariant-loop-course : goal.invariant-loop-course
invariant-loop-course l = (length l.paths.items ≡ length l.yielded) × ArePaths (hour_log l.hour l.specs l.fn.courses.rows l.fn.courses.stretches l.before l.after) (length l.yielded) l.paths.items
