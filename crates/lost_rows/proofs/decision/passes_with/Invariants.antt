use Rattle.std.proofs.Common.{◌≡◌, ℕ, ◌+◌, ◌<◌, pos}
use Rattle.reach.specs.Runs.{State}
use Rattle.lost_rows.specs.Credits.{AdmitsLost, HoldsLost}
use Rattle.lost_rows.specs.Decisions.{KeepsRule}
use Rattle.lost_rows.proofs.decision.passes_with.Given as goal

abbrev pub invariant-loop-before : goal.invariant-loop-before
invariant-loop-before l = (i k : ℕ) → i + k ≡ l.lost → i < l.before → ((v : State) × HoldsLost l.pasts i v × KeepsRule l.rule (pos l.at) v × AdmitsLost l.aheads k v) → ⊥
