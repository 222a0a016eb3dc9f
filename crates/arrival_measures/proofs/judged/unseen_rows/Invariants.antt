use Rattle.std.proofs.Common.{◌≡◌, ℕ, Bool, false, take}
use Rattle.std.specs.Prelude.{All}
use Rattle.sig_base.specs.declared.values.Row.{Row}
use Rattle.arrival_measures.specs.Steps.{AreJudgedRows}
use Rattle.arrival_measures.proofs.judged.unseen_rows.Given as goal

abbrev pub invariant-loop-row : goal.invariant-loop-row
invariant-loop-row l = (test : ℕ → Bool) (sees : Row → Bool) → All (λ x. sees x ≡ false) l.rows → AreJudgedRows test (λ _ _. ⊥) sees (take l._row-index l.rows) l.judged
