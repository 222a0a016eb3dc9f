use Rattle.event_codes.specs.declared.channels.Kind.TheVariants.{Phase}
use Rattle.ring_config.proofs.SpecLaws.{next_spec, specs_over}
use Rattle.ring_config.proofs.channels.specs.Goals as goal

pub loop-spec-preserved : goal.loop-spec-preserved
loop-spec-preserved c =
    next_spec c.args.floors.now c.loop-spec.spec c.args.channels.now c.loop-spec.specs.items c.push.new.self.items _ c.floors_of.result (record { kind = Phase; number = 0 }) c.loop-spec-test.true c.floors_of.ensures c.in_ok-push.ensures.items c.loop-spec.invariant

pub returns : goal.returns
returns c = specs_over c.args.floors.now c.loop-spec.spec c.args.channels.now c.loop-spec.specs.items _ c.loop-spec-test.false c.loop-spec.invariant
