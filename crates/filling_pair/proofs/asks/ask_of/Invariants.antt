use Rattle.std.proofs.Common.{◌≡◌, ℕ, ◌<◌, get_or}
use Rattle.filling_pair.specs.declared.asks.Ask.{Ask}
use Rattle.filling_pair.proofs.asks.ask_of.Given as goal

abbrev pub invariant-loop-ask : goal.invariant-loop-ask
invariant-loop-ask l = (i : ℕ) (d : Ask) → i < l.ask-index → (get_or l.asks i d).spec ≡ l.spec → ⊥
