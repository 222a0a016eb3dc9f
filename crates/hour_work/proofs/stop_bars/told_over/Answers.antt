use Rattle.rule_audit.proofs.Tracked.{channels_are}
use Rattle.hour_work.proofs.stop_bars.told_over.Goals as goal

pub of-requires-clause-specs : goal.of-requires-clause-specs
of-requires-clause-specs c = rw c.specs.ensures.value (channels_are c.args.config.now c.specs.ensures.sound)
