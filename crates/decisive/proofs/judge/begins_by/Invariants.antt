use Rattle.std.proofs.Common.{ℕ, ◌<◌, get_or}
use Rattle.decisive.specs.Parts.{no_part}
use Rattle.decisive.specs.Tries.{PartBegins}
use Rattle.decisive.proofs.judge.begins_by.Given as goal

abbrev pub invariant-loop-i : goal.invariant-loop-i
invariant-loop-i l = (k : ℕ) → k < l.i → PartBegins l.question l.told l.fn.last l.fn.tenth (get_or l.question.parts.now k no_part)
