use Rattle.std.proofs.Common.{◌≡◌, drop}
use Rattle.span_set.specs.Changes.{join}
use Rattle.span_set.proofs.change.joined.Given as goal

abbrev pub invariant-loop-count : goal.invariant-loop-count
invariant-loop-count l = join l.fn.new.from l.fn.new.to l.rest ≡ join l.range.from l.range.to (drop l.count l.rest)
