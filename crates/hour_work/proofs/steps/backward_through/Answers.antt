use Rattle.std.proofs.Common.{ℤ, List, Option, subst}
use Rattle.signal_log.specs.Over.{AreAheadsOver}
use Rattle.rule_audit.proofs.Tracked.{channels_are}
use Rattle.hour_work.proofs.steps.backward_through.Goals as goal

pub aheads_through-requires-clause-specs : goal.aheads_through-requires-clause-specs
aheads_through-requires-clause-specs c = rw c.specs.ensures.value (channels_are c.args.config.now c.specs.ensures.sound)

pub returns-clause-over : goal.returns-clause-over
returns-clause-over c =
    let cfg = c.args.config.now in
    let over = rw c.specs.ensures.value at c.in_ok-aheads.ensures.over in
    subst (λ (v : List (List (Option ℤ))). AreAheadsOver cfg.specs c.args.place.now.hour c.args.place.now.rows c.args.place.now.blanks v c.in_ok-aheads.aheads) c.after.view_is over

pub aheads_through-requires-clause-courses : goal.aheads_through-requires-clause-courses
aheads_through-requires-clause-courses c = rw c.specs.ensures.value c.requires.courses

pub aheads_through-requires-clause-shape_before : goal.aheads_through-requires-clause-shape_before
aheads_through-requires-clause-shape_before c = rw c.specs.ensures.value c.requires.shape_before

pub aheads_through-requires-clause-reached : goal.aheads_through-requires-clause-reached
aheads_through-requires-clause-reached c = rw c.specs.ensures.value c.requires.reached

pub aheads_through-requires-clause-states : goal.aheads_through-requires-clause-states
aheads_through-requires-clause-states c = rw c.specs.ensures.value c.requires.states
