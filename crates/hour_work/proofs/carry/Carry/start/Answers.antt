use Rattle.hour_work.proofs.PointLaws.{carry_fits, first_carry}
use Rattle.hour_store.specs.Store.{nothing_held}
use Rattle.rule_audit.proofs.Tracked.{channels_are}
use Rattle.hour_work.proofs.carry.Carry.start.Goals as goal

pub start-requires : goal.start-requires
start-requires c = rw c.specs.ensures.value (channels_are c.args.config.now c.specs.ensures.sound)

pub returns-clause-carry : goal.returns-clause-carry
returns-clause-carry c =
    let shape = rw c.specs.ensures.value at c.in_ok-pasts.ensures.shape in
    let states = rw c.specs.ensures.value at c.in_ok-pasts.ensures.states in
    let cuts = rw c.phases.ensures.value at c.in_ok-cuts.ensures in
    first_carry c.args.config.now c.in_ok-pasts.pasts c.in_ok-cuts.cuts c.start-closing.result c.in_ok-splits.splits c.in_ok-others.others c.in_ok-arrivals.arrivals shape states cuts c.start-closing.ensures c.in_ok-splits.ensures c.in_ok-others.ensures c.in_ok-arrivals.ensures

pub returns-clause-fit : goal.returns-clause-fit
returns-clause-fit c = carry_fits c.args.config.now (nothing_held 0) 0 _ (returns-clause-carry c (nothing_held 0))
