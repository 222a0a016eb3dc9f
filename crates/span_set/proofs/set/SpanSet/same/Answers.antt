use Rattle.span_set.proofs.Sets.{same_iff}
use Rattle.span_set.proofs.set.SpanSet.same.Goals as goal

pub returns-clause-members : goal.returns-clause-members
returns-clause-members c = let a = same_iff _ _ c.self.invariant c.other.invariant in rw (← c.self.view_is, ← c.other.view_is) (let e = rw (c.deref.ensures, c.deref-2.ensures) at c.are_equal.ensures in (λ t. a.0 (e.0 t), λ t. e.1 (a.1 t)))
