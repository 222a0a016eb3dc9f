use Rattle.std.proofs.Common.{ℤ, List, Option, subst}
use Rattle.signal_log.specs.Over.{AreAheadsOver}
use Rattle.rule_audit.proofs.Tracked.{channels_are}
use Rattle.hour_work.proofs.steps.backward_over.Goals as goal

pub aheads_over-requires-clause-specs : goal.aheads_over-requires-clause-specs
aheads_over-requires-clause-specs c = rw c.specs.ensures.value (channels_are c.args.config.now c.specs.ensures.sound)

pub returns-clause-over : goal.returns-clause-over
returns-clause-over c =
    let cfg = c.args.config.now in
    let over = rw c.specs.ensures.value at c.in_ok-aheads.ensures.over in
    subst (λ (v : List (List (Option ℤ))). AreAheadsOver cfg.specs c.args.place.now.hour c.args.place.now.rows c.args.place.now.blanks v c.in_ok-aheads.aheads) c.after.view_is over
