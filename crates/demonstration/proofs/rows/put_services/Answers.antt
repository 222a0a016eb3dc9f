use Rattle.demonstration.proofs.RowFacts.{is_done, services-done, services-go}
use Rattle.demonstration.proofs.rows.put_services.Goals as goal

pub loop-at-preserved : goal.loop-at-preserved
loop-at-preserved c =
    services-go c.args.end c.loop-at.x c.loop-at.at c.loop-at.phase c.next-first.result c.next-second.result c.other_phase-phase.result c.loop-at.rows.items c.put_service.new.rows.items _
    c.loop-at-test.true c.loop-at.invariant c.next-first.ensures c.next-second.ensures c.other_phase-phase.ensures c.in_ok-put_service.ensures

pub returns : goal.returns
returns c = is_done c.loop-at.rows.items _ _ c.loop-at.invariant (services-done c.args.end c.loop-at.x c.loop-at.at c.loop-at.phase c.loop-at-test.false)
