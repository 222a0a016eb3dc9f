use Rattle.reach.proofs.Alone.{single_alone}
use Rattle.reach.proofs.seen.sure_single.Goals as goal

pub returns-clause-alone : goal.returns-clause-alone
returns-clause-alone c = single_alone c.args.one c.requires.single
