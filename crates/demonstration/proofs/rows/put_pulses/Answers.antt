use Rattle.demonstration.proofs.RowFacts.{is_done, pulses-done, pulses-go}
use Rattle.demonstration.proofs.rows.put_pulses.Goals as goal

pub loop-at-preserved : goal.loop-at-preserved
loop-at-preserved c =
    pulses-go c.args.end c.loop-at.x c.loop-at.at c.next-first.result c.next-second.result c.row.result c.row-in-loop-at.result c.loop-at.rows.items c.extend_from_slice.new.self.items _
    c.loop-at-test.true c.loop-at.invariant c.next-first.ensures c.next-second.ensures c.row.ensures c.row-in-loop-at.ensures c.in_ok-extend_from_slice.ensures.items

pub returns : goal.returns
returns c = is_done c.loop-at.rows.items _ _ c.loop-at.invariant (pulses-done c.args.end c.loop-at.x c.loop-at.at c.loop-at-test.false)
