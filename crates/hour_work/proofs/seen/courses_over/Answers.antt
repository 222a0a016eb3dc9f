use Rattle.rule_audit.proofs.Tracked.{channels_are}
use Rattle.hour_work.proofs.seen.courses_over.Goals as goal

pub courses-requires : goal.courses-requires
courses-requires c = rw c.specs.ensures.value (channels_are c.args.config.now c.specs.ensures.sound)
