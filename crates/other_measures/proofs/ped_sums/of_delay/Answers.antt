use Rattle.std.proofs.Common.{◌∙◌}
use Rattle.other_measures.proofs.Ones.{one_wait, one_uncalled, one_partial}
use Rattle.other_measures.proofs.ped_sums.of_delay.Goals as goal

pub returns-in-Ran : goal.returns-in-Ran
returns-in-Ran c = c.of_wait.ensures ∙ one_wait c.args.delay.now c.in-Ran.wait c.in-Ran.is

pub returns-in-NotBegun : goal.returns-in-NotBegun
returns-in-NotBegun c = one_uncalled c.args.delay.now c.nothing.result c.nothing.ensures.zero c.in-NotBegun.is

pub returns-in-Partial : goal.returns-in-Partial
returns-in-Partial c = one_partial c.args.delay.now c.nothing-in-Partial.result c.nothing-in-Partial.ensures.zero c.in-Partial.is
