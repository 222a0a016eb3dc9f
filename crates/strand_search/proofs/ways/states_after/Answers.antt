use Rattle.channel_tables.specs.Spec.{rules_of}
use Rattle.channel_ways.proofs.Tracing.{clamped_no_stop}
use Rattle.strand_search.proofs.ways.states_after.Goals as goal

pub unreachable-requires : goal.unreachable-requires
unreachable-requires c =
    let stop = rw (c.in-Some.is, c.in_ok-past.ensures, c.machine_of-machine.ensures) at c.in_ok-_stop.ensures.after in
    clamped_no_stop (rules_of c.args.spec.now) c.args.from.now.only c.args.moves.now c.requires.some.0 c.in-Some._stop c.requires.some.1 stop
