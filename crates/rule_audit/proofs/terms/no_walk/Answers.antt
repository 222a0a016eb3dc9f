use Rattle.std.proofs.Common.{refl}
use Rattle.rule_audit.specs.Rules.{colours_of, others}
use Rattle.rule_audit.proofs.terms.no_walk.Goals as goal

pub returns : goal.returns
unfolding colours_of others
returns c = rw (c.with_colour.ensures, c.with_colour-clearance.ensures, c.with_colour-dont_walk.ensures, c.no_colours.ensures) refl
