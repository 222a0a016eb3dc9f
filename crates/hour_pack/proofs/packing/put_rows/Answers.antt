use Rattle.std.proofs.Common.{arith}
use Rattle.hour_pack.proofs.OrderFacts.{no_row}
use Rattle.hour_pack.proofs.PackFacts.{put-near, put-on, put-end}
use Rattle.hour_pack.proofs.packing.put_rows.Goals as goal

pub put_row-requires-clause-low : goal.put_row-requires-clause-low
put_row-requires-clause-low c = (put-near _ _ c.args.rows.now c.loop-row.out.items c.loop-row.last c.loop-row.row-index no_row (omega arith) c.loop-row.invariant).0

pub put_row-requires-clause-near : goal.put_row-requires-clause-near
put_row-requires-clause-near c =
    omega (arith, (put-near _ _ c.args.rows.now c.loop-row.out.items c.loop-row.last c.loop-row.row-index no_row (omega arith) c.loop-row.invariant).1)

pub loop-row-preserved : goal.loop-row-preserved
loop-row-preserved c =
    put-on _ _ c.args.rows.now c.loop-row.out.items c.put_row.new.out.items c.loop-row.last c.loop-row.row-index no_row (omega arith) c.loop-row.invariant
    c.in_ok-put_row.ensures.value c.in_ok-put_row.ensures.event

pub returns-clause-value : goal.returns-clause-value
returns-clause-value c = (put-end _ _ c.args.rows.now c.loop-row.out.items c.loop-row.last c.loop-row.row-index (omega arith) c.loop-row.invariant).0

pub returns-clause-events : goal.returns-clause-events
returns-clause-events c = (put-end _ _ c.args.rows.now c.loop-row.out.items c.loop-row.last c.loop-row.row-index (omega arith) c.loop-row.invariant).1
