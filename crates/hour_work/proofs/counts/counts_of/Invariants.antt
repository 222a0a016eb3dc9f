use Rattle.std.proofs.Common.{◌≡◌, take}
use Rattle.hour_work.specs.Counts.{counts_of}
use Rattle.hour_work.proofs.counts.counts_of.Given as goal

abbrev pub invariant-loop-line : goal.invariant-loop-line
invariant-loop-line l = l.counts.items ≡ counts_of l.fn.rules (take l.line-index l.lines)
