use Rattle.std.proofs.Common.{sym}
use Rattle.other_measures.proofs.Seeing.{has_place}
use Rattle.other_measures.proofs.states.tenths.Goals as goal

pub returns-in-Some : goal.returns-in-Some
returns-in-Some c = λ log first is. (c.in-Some.spec, sym c.in-Some.ensures.value, c.tenths_at.ensures c.args.config.now log first is)

pub returns-in-None : goal.returns-in-None
returns-in-None c = absurd (has_place c.args.config.now c.args.channel c.spec_of.result c.requires.tracked c.spec_of.ensures.tracked c.in-None.is)
