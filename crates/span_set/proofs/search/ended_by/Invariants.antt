use Rattle.std.proofs.Common.{take}
use Rattle.span_set.specs.Changes.{AllEnd}
use Rattle.span_set.proofs.search.ended_by.Given as goal

abbrev pub invariant-loop-i : goal.invariant-loop-i
invariant-loop-i l = AllEnd l.at (take l.i l.spans)
