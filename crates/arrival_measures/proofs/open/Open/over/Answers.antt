use Rattle.std.proofs.Common.{ap, ◌∙◌, arith}
use Rattle.hour_sweep.proofs.Loops.{rows_done}
use Rattle.arrival_measures.specs.InTenths.{moved, tenth_after}
use Rattle.arrival_measures.proofs.Over.{over_is}
use Rattle.arrival_measures.proofs.open.Open.over.Goals as goal

pub returns : goal.returns
returns c = λ earlier order e le h.
    let p = c.args.phase in
    let d = c.args.detector in
    let to = c.args.to in
    let done = rows_done (tenth_after p d) c.args.rows.now c.loop-row.row-index c.loop-row.now _ (omega arith) c.loop-row.invariant in
    ap (λ w. w.cycle) (c.moved_to.ensures ∙ ap (λ w. moved to w) done)
    ∙ over_is p d c.args.self.from c.args.at to c.args.self earlier c.args.rows.now e le (omega arith) h order
