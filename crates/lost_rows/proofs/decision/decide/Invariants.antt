use Rattle.std.proofs.Common.{ℕ, ◌<◌, pos}
use Rattle.lost_rows.specs.Credits.{AdmitsLost, HoldsLost}
use Rattle.lost_rows.specs.Decisions.{KeepsRule, Passed}
use Rattle.lost_rows.proofs.decision.decide.Given as goal

abbrev pub invariant-loop-lost : goal.invariant-loop-lost
invariant-loop-lost l = (n : ℕ) → n < l.lost → Passed (HoldsLost l.pasts) (AdmitsLost l.aheads) (KeepsRule l.rule (pos l.at)) n → ⊥
