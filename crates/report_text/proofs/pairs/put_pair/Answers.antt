use Rattle.std.proofs.Common.{◌++◌, codes}
use Rattle.outside.proofs.PutsFacts.{front-stopped, puts-then}
use Rattle.report_text.specs.Pairs.{side_text, undecided_line}
use Rattle.report_text.proofs.pairs.put_pair.Goals as goal

pub returns-in_err-put_undecided : goal.returns-in_err-put_undecided
returns-in_err-put_undecided g c =
    let s = c.args.config.now in
    let p = c.args.pair.now in
    front-stopped _ _ (undecided_line s.window c.args.line.now.rule c.args.line.now.at) (side_text s (codes "keeps") p.keeps ++ side_text s (codes "breaks") p.breaks) _ c.from_residual.ensures.0 (rw (c.window.ensures) at c.in_err-put_undecided.ensures)

pub returns : goal.returns
returns g c =
    let s = c.args.config.now in
    let p = c.args.pair.now in
    puts-then _ _ _ (undecided_line s.window c.args.line.now.rule c.args.line.now.at) (side_text s (codes "keeps") p.keeps ++ side_text s (codes "breaks") p.breaks) c.put_sides.result (rw (c.window.ensures) at c.in_ok-put_undecided.ensures) c.put_sides.ensures
