use Rattle.ring_config.proofs.ColourLaws.{named_place}
use Rattle.ring_config.proofs.format.references.colour_of.Goals as goal

pub returns : goal.returns
returns c = named_place c.args.kind c.args.text.now c.colour_named.result c.colour_named.ensures.named c.colour_named.ensures.every
