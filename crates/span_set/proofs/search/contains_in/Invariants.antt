use Rattle.std.proofs.Common.{◌↔◌, drop}
use Rattle.span_set.specs.Spans.{Member}
use Rattle.span_set.proofs.search.contains_in.Given as goal

abbrev pub invariant-loop-s : goal.invariant-loop-s
invariant-loop-s l = Member (drop l.s-index l.spans) l.at ↔ Member l.spans l.at
