use Rattle.std.proofs.Common.{codes}
use Rattle.outside.proofs.PutsFacts.{front-stopped, puts-then}
use Rattle.report_text.specs.Pairs.{side_text}
use Rattle.report_text.proofs.pairs.put_sides.Goals as goal

pub returns-in_err-put_side : goal.returns-in_err-put_side
returns-in_err-put_side g c =
    let s = c.args.config.now in
    let p = c.args.pair.now in
    front-stopped _ _ (side_text s (codes "keeps") p.keeps) (side_text s (codes "breaks") p.breaks) _ c.from_residual.ensures.0 (rw (c.list.ensures) at c.in_err-put_side.ensures)

pub returns : goal.returns
returns g c =
    let s = c.args.config.now in
    let p = c.args.pair.now in
    puts-then _ _ _ (side_text s (codes "keeps") p.keeps) (side_text s (codes "breaks") p.breaks) c.put_side-2.result (rw (c.list.ensures) at c.in_ok-put_side.ensures) (rw (c.list-2.ensures) at c.put_side-2.ensures)
