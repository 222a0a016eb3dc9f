use Rattle.std.proofs.Common.{◌∙◌, map, ap}
use Rattle.std.proofs.lemmas.List.{take_all}
use Rattle.sig_base.specs.declared.values.Row.{Row}
use Rattle.arrival_measures.proofs.ahead.pending.Goals as goal

pub returns : goal.returns
returns c = λ a b or.
    c.loop-row.invariant
    ∙ ap (λ zs. map (λ (x : Row). x.at) zs) (take_all c.loop-row.row-index c.rows_from-later.result.now c.loop-row-test.false ∙ c.rows_from-later.ensures a b or)
