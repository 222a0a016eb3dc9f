use Rattle.std.proofs.Common.{List, subst, arith}
use Rattle.std.proofs.lemmas.List.{take_all}
use Rattle.sig_base.specs.declared.values.Row.{Row}
use Rattle.board.specs.Logs.{no_row}
use Rattle.arrival_measures.specs.Steps.{AreJudgedRows}
use Rattle.arrival_measures.proofs.Counting.{judged_off, judged_none}
use Rattle.arrival_measures.proofs.judged.unseen_rows.Goals as goal

pub loop-row-init : goal.loop-row-init
loop-row-init c = λ test sees none. judged_none test (λ _ _. ⊥) sees _ c.nothing-judged.ensures

pub loop-row-preserved : goal.loop-row-preserved
loop-row-preserved c = λ test sees none.
    let rows = c.args.rows.now in
    let i = c.loop-row._row-index in
    let lt = c.loop-row-test.true in
    judged_off test (λ _ _. ⊥) sees rows i lt (omega arith) c.loop-row.judged _ (none i no_row lt) c.with_unseen-judged.ensures (c.loop-row.invariant test sees none)

pub returns : goal.returns
returns c = λ test sees none.
    subst (λ (zs : List Row). AreJudgedRows test (λ _ _. ⊥) sees zs c.loop-row.judged)
    (take_all c.loop-row._row-index c.args.rows.now c.loop-row-test.false)
    (c.loop-row.invariant test sees none)
