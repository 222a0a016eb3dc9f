use Rattle.rule_audit.proofs.Judging.{one_colour}
use Rattle.filling_pair.proofs.Timed.{interval_lacks, interval_shows}
use Rattle.filling_pair.proofs.pair.interval_strands.Goals as goal

pub unreachable-requires : goal.unreachable-requires
unreachable-requires g c =
    let item = c.args.item.now in
    let only = one_colour c.none.result c.with.result item.colour c.none.ensures c.with.ensures in
    let lacks = rw c.in-None.is at c.in_ok-strands.ensures.strands in
    interval_lacks c.args.specs.now c.args.store.now c.args.line.now item c.with.result c.opposite.result only c.opposite.ensures.opposite c.opposite.ensures.tells c.requires c.args.breaks lacks

pub returns-clause-shows : goal.returns-clause-shows
returns-clause-shows g c =
    let item = c.args.item.now in
    let only = one_colour c.none.result c.with.result item.colour c.none.ensures c.with.ensures in
    let all = rw c.in-Some.is at c.in_ok-strands.ensures.strands in
    interval_shows c.args.specs.now c.args.store.now c.args.line.now item c.with.result c.opposite.result only c.opposite.ensures.opposite c.opposite.ensures.tells c.requires c.args.breaks c.in-Some.strands all
