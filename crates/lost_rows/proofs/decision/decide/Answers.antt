use Rattle.std.proofs.Common.{arith, pos, inl, inr, subst, ℕ}
use Rattle.std.proofs.lemmas.Bool.{cases_eq}
use Rattle.lost_rows.specs.Credits.{AdmitsLost, HoldsLost}
use Rattle.lost_rows.specs.Decisions.{KeepsRule, Passed}
use Rattle.lost_rows.proofs.Deciding.{not_there}
use Rattle.lost_rows.proofs.decision.decide.Goals as goal

pub loop-lost-preserved : goal.loop-lost-preserved
loop-lost-preserved c n lt p = elim (cases_eq n c.loop-lost.lost) [
  | inl q ↦ not_there c.passes_with.result _ c.passes_with.ensures c.if-passes_with.false (subst (λ (k : ℕ). Passed (HoldsLost c.args.pasts.now) (AdmitsLost c.args.aheads.now) (KeepsRule c.args.rule.now (pos c.args.at)) k) q p)
  | inr ne ↦ c.loop-lost.invariant n (omega arith) p
]

pub returns : goal.returns
returns c k few p = c.loop-lost.invariant k (let t = c.loop-lost-test.false in omega arith) p
