use Rattle.std.proofs.Common.{ℤ, List, Option, subst, sym}
use Rattle.board.specs.Places.{AreAheadsOf}
use Rattle.signal_log.specs.Over.{AreAheadsOver}
use Rattle.rule_audit.proofs.Tracked.{channels_are}
use Rattle.hour_work.proofs.again.backward_again.Goals as goal

pub aheads_over_again-requires-clause-specs : goal.aheads_over_again-requires-clause-specs
aheads_over_again-requires-clause-specs c = rw c.specs-specs.ensures.value (channels_are c.args.config.now c.specs-specs.ensures.sound)

pub returns-clause-over : goal.returns-clause-over
returns-clause-over c =
    let cfg = c.args.config.now in
    let over = rw c.specs-specs.ensures.value at c.in_ok-aheads.ensures.over in
    subst (λ (v : List (List (Option ℤ))). AreAheadsOver cfg.specs c.args.place.now.hour c.args.place.now.rows c.args.place.now.blanks v c.in_ok-aheads.aheads) c.after.view_is over

pub aheads_over_again-requires-clause-was_after : goal.aheads_over_again-requires-clause-was_after
aheads_over_again-requires-clause-was_after c = rw c.specs-specs.ensures.value (subst (λ (v : List (List (Option ℤ))). AreAheadsOf c.args.config.now.specs v) (sym c.was_after.view_is) c.requires.was.was)

pub aheads_over_again-requires-clause-was_before : goal.aheads_over_again-requires-clause-was_before
aheads_over_again-requires-clause-was_before c = rw c.specs-specs.ensures.value (subst (λ (v : List (List (Option ℤ))). AreAheadsOf c.args.config.now.specs v) (sym c.was_before.view_is) c.requires.was.fit)

pub aheads_over_again-requires-clause-was : goal.aheads_over_again-requires-clause-was
aheads_over_again-requires-clause-was c =
    let specs = c.args.config.now.specs in
    let hour = c.args.place.now.hour in
    let rows = c.args.place.now.rows in
    let blanks = c.args.place.now.blanks in
    let before = subst (λ (v : List (List (Option ℤ))). AreAheadsOver specs hour rows blanks c.args.was.now.after.now v) (sym c.was_before.view_is) c.requires.was.over in
    rw c.specs-specs.ensures.value (subst (λ (v : List (List (Option ℤ))). AreAheadsOver specs hour rows blanks v c.was_before.inside.aheads) (sym c.was_after.view_is) before)
