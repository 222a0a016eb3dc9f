use Rattle.std.proofs.Common.{◌∙◌}
use Rattle.ring_config.proofs.NamedLaws.{place_by_keys}
use Rattle.ring_config.proofs.config.Config.approach_named.Goals as goal

pub returns-in-Some-clause-value : goal.returns-in-Some-clause-value
returns-in-Some-clause-value c =
    let found = rw c.as_bytes.ensures.value at c.in-Some.ensures.index in
    rw (← c.self.view_is) (found ∙ place_by_keys (λ k. k.items) c.self.inside.approaches.entries c.args.name.now c.self.invariant.named)

pub returns-in-None-clause-value : goal.returns-in-None-clause-value
returns-in-None-clause-value c =
    let found = rw c.as_bytes.ensures.value at c.in-None.ensures.index in
    rw (← c.self.view_is) (found ∙ place_by_keys (λ k. k.items) c.self.inside.approaches.entries c.args.name.now c.self.invariant.named)
