use Rattle.std.proofs.Common.{arith}
use Rattle.demonstration.proofs.RowFacts.{is_done}
use Rattle.demonstration.proofs.TextFacts.{records-done, records-go}
use Rattle.demonstration.proofs.records.put_records.Goals as goal

pub loop-row-preserved : goal.loop-row-preserved
loop-row-preserved c =
    (records-go c.args.rows.now c.loop-row.row-index _ c.loop-row.out.items c.put_record.new.out.items _ (omega arith) c.loop-row.invariant.0 c.in_ok-put_record.ensures, c.move_start.ensures)

pub returns : goal.returns
returns c = is_done c.loop-row.out.items _ _ c.loop-row.invariant.0 (records-done c.args.rows.now c.loop-row.row-index (omega arith))
