use Rattle.std.proofs.Common.{◌∙◌, ap}
use Rattle.std.specs.Prelude.{flat_map}
use Rattle.std.proofs.lemmas.List.{take_all}
use Rattle.board.specs.Logs.{no_row}
use Rattle.arrival_measures.specs.Points.{points_at}
use Rattle.arrival_measures.proofs.RowPoints.{points_next}
use Rattle.arrival_measures.proofs.points.points_among.Goals as goal

pub loop-row-preserved : goal.loop-row-preserved
loop-row-preserved c = λ low. points_next c.args.phase c.args.config.now.approaches c.args.rows.now c.loop-row.row-index no_row c.loop-row.points c.add_points.new.points c.loop-row-test.true (c.loop-row.invariant low) (c.in_ok-add_points.ensures (low c.loop-row.row-index no_row c.loop-row-test.true))

pub returns : goal.returns
returns c = λ low. c.loop-row.invariant low ∙ ap (λ zs. flat_map (points_at c.args.phase 0 c.args.config.now.approaches) zs) (take_all c.loop-row.row-index c.args.rows.now c.loop-row-test.false)
