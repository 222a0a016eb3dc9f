use Rattle.std.proofs.Common.{sym, append-nil}
use Rattle.sigaudit.specs.Offsets.{arrivals_at}
use Rattle.sigaudit.proofs.OffsetFacts.{flat_end, flat_next, taken_all}
use Rattle.sigaudit.proofs.offsets.add_arrivals.Goals as goal

pub loop-point-init : goal.loop-point-init
loop-point-init c = sym (append-nil c.args.arrivals.now.items)

pub loop-point-preserved : goal.loop-point-preserved
loop-point-preserved c =
    flat_next (arrivals_at c.args.place c.args.diagram.now.cycle) c.list-point-items.result.now c.loop-point.point-index (record { approach = 0; offset = 0 }) c.args.arrivals.now.items c.loop-point.arrivals.items c.add_arrival.new.arrivals.items
    c.loop-point-test.true c.loop-point.invariant c.in_ok-add_arrival.ensures

pub returns : goal.returns
returns c =
    taken_all c.args.place c.args.diagram.now c.is_taken.result c.args.arrivals.now.items c.loop-point.arrivals.items c.is_taken.ensures c.if-not-is_taken.false
    (flat_end (arrivals_at c.args.place c.args.diagram.now.cycle) c.list-point-items.result.now c.args.diagram.now.points c.loop-point.point-index c.args.arrivals.now.items c.loop-point.arrivals.items c.loop-point-test.false c.list-point-items.ensures c.loop-point.invariant)
