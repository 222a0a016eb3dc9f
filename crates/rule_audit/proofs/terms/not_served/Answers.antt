use Rattle.std.proofs.Common.{refl}
use Rattle.rule_audit.specs.Rules.{colours_of, others}
use Rattle.rule_audit.proofs.terms.not_served.Goals as goal

pub returns : goal.returns
unfolding colours_of others
returns c = rw (c.with_colour.ensures, c.with_colour-yellow_done.ensures, c.with_colour-red.ensures, c.no_colours.ensures) refl
