use Rattle.std.proofs.Common.{◌∙◌, sym}
use Rattle.event_codes.specs.declared.channels.Kind.TheVariants.{Phase}
use Rattle.ring_config.proofs.ChannelLaws.{named_here, named_later, named_nowhere}
use Rattle.ring_config.proofs.format.references.named.Goals as goal

pub returns-then-is_named : goal.returns-then-is_named
returns-then-is_named c =
    sym (named_here c.loop-spec.spec c.args.channels.now c.args.text.now (record { kind = Phase; number = 0 }) c.loop-spec-test.true (sym c.is_named.ensures ∙ c.if-is_named.true)) ∙ c.loop-spec.invariant

pub loop-spec-preserved : goal.loop-spec-preserved
loop-spec-preserved c =
    sym (named_later c.loop-spec.spec c.args.channels.now c.args.text.now (record { kind = Phase; number = 0 }) c.loop-spec-test.true (sym c.is_named.ensures ∙ c.if-is_named.false)) ∙ c.loop-spec.invariant

pub returns : goal.returns
returns c = sym (named_nowhere c.loop-spec.spec c.args.channels.now c.args.text.now c.loop-spec-test.false) ∙ c.loop-spec.invariant
