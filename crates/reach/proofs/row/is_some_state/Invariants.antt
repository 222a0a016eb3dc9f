use Rattle.std.proofs.Common.{◌<◌, ℕ, ℤ, get_or, []}
use Rattle.span_set.specs.Spans.{Member}
use Rattle.reach.proofs.row.is_some_state.Given as goal

abbrev pub invariant-loop-set : goal.invariant-loop-set
invariant-loop-set l = (c : ℕ) → c < l.set-index → (e : ℤ) → Member (get_or l.sets c []) e → ⊥
