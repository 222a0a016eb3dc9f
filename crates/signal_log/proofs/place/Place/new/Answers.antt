use Rattle.signal_log.proofs.Calls.{opened}
use Rattle.signal_log.proofs.place.Place.new.Goals as goal

pub invariant_of-result : goal.invariant_of-result
invariant_of-result c = rw c.of.ensures (opened c.args.hour c.args.rows c.is_some.result c.args.blanked.now c.in_ok-stretches.stretches.items c.requires.in_range c.requires.of_hour c.is_some.ensures c.in_ok-stretches.ensures.cut c.in_ok-stretches.ensures.only)
