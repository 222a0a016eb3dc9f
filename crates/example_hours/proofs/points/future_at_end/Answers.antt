use Rattle.std.proofs.Common.{◌∙◌, ℕ, subst, sym}
use Rattle.std.proofs.lemmas.Result.{IfOk-weaker}
use Rattle.hour_work.specs.Points.{IsFutureAt}
use Rattle.example_hours.proofs.points.future_at_end.Goals as goal

pub returns : goal.returns
returns c =
    let s = c.args.store.now in
    let two = c.requires.stored in
    IfOk-weaker c.end.result _ _ (λ f h. subst (λ (k : ℕ). IsFutureAt c.args.config.now s k f) two (h s (two ∙ sym c.requires.configured))) c.end.ensures.future
