use Rattle.std.proofs.Common.{◌↔◌, drop}
use Rattle.span_set.specs.Spans.{AnyIn}
use Rattle.span_set.proofs.search.any_within.Given as goal

abbrev pub invariant-loop-s : goal.invariant-loop-s
invariant-loop-s l = AnyIn (drop l.s-index l.spans) l.from l.to ↔ AnyIn l.spans l.from l.to
