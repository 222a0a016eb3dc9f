use Rattle.std.proofs.Common.{sym, ◌∙◌, ◌<◌, ◌≡◌, List, length, get_or, subst}
use Rattle.channel_tables.specs.declared.spec.Spec.{Spec}
use Rattle.board.specs.Logs.{no_spec}
use Rattle.stop_bar.proofs.ToldAt.{colours_at, detector, place_channel}
use Rattle.stop_bar.proofs.detectors.detector_hour.Goals as goal

pub switched_along-requires-clause-spec : goal.switched_along-requires-clause-spec
switched_along-requires-clause-spec c = subst (λ (xs : List Spec). c.in-Some.spec < length xs) (sym c.requires.specs) (place_channel c.args.config.now.specs c.args.number c.in-Some.spec (sym c.spec_of.ensures.value ∙ c.in-Some.is)).0

pub switched_along-requires-clause-channel : goal.switched_along-requires-clause-channel
switched_along-requires-clause-channel c = subst (λ (xs : List Spec). (get_or xs c.in-Some.spec no_spec).channel ≡ detector c.args.number) (sym c.requires.specs) (place_channel c.args.config.now.specs c.args.number c.in-Some.spec (sym c.spec_of.ensures.value ∙ c.in-Some.is)).1

pub switched_along-requires-clause-colours : goal.switched_along-requires-clause-colours
switched_along-requires-clause-colours c = colours_at c.args.config.now.specs c.args.number c.in-Some.spec c.args.pasts.now c.at.result.now c.requires.before (sym c.spec_of.ensures.value ∙ c.in-Some.is) c.at.ensures
