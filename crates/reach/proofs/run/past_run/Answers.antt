use Rattle.std.proofs.lemmas.Int.{to_z-of_z}
use Rattle.reach.proofs.Alone.{on_ok}
use Rattle.reach.proofs.Filling.{run_gaps}
use Rattle.reach.proofs.run.past_run.Goals as goal

pub returns-clause-after : goal.returns-clause-after
returns-clause-after g c =
    let m = g.M.Machine.rules c.args.machine.now in
    let rf = c.ranges.from in let rt = c.ranges.to in
    let early = simp to_z-of_z at c.past_holes-arrival.ensures.earliest in
    let fill = simp to_z-of_z at c.fill_past.ensures.after in
    on_ok c.fill_past.result _ _ (λ f. run_gaps m c.args.past.now c.fill_past.new.past c.args.holes.now c.args.from c.args.to c.past_holes-arrival.result c.requires.holes c.requires.order early f) fill
