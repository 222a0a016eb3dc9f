use Rattle.std.proofs.Common.{refl}
use Rattle.rule_audit.specs.Rules.{colours_of, others}
use Rattle.rule_audit.proofs.terms.no_green.Goals as goal

pub returns : goal.returns
unfolding colours_of others
returns c = rw (c.with_colour.ensures, c.with_colour-clear.ensures, c.with_colour-yellow.ensures, c.with_colour-trailing.ensures, c.with_colour-off.ensures, c.no_colours.ensures) refl
