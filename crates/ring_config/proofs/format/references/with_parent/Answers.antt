use Rattle.toml.specs.View.{view}
use Rattle.ring_config.proofs.ParentLaws.{not_again, once}
use Rattle.ring_config.proofs.format.references.with_parent.Goals as goal

pub returns-then-has : goal.returns-then-has
returns-then-has c = λ found is.
    not_again c.args.phases.now found c.args.parents c.in-Some.number (view c.args.value.now) c.has.result c.in-Some.ensures.value c.in-Some.ensures.low c.has.ensures c.if-has.true is

pub returns-else-has : goal.returns-else-has
returns-else-has c = λ found is.
    once c.args.phases.now found c.args.parents c.with_phase.result c.in-Some.number (view c.args.value.now) c.has.result c.in-Some.ensures.value c.in-Some.ensures.low c.has.ensures c.if-has.false c.with_phase.ensures is
