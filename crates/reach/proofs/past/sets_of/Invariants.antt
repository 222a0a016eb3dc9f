use Rattle.std.proofs.Common.{◌≡◌, [], List, replicate}
use Rattle.span_set.specs.declared.set.Span.{Span}
use Rattle.reach.proofs.past.sets_of.Given as goal

abbrev pub invariant-loop-colour : goal.invariant-loop-colour
invariant-loop-colour l = l.sets.items ≡ replicate {A = List Span} l._colour []
