use Rattle.std.proofs.Common.{negsuc, ◌^◌}
use Rattle.reach.proofs.Returning.{low_from}
use Rattle.reach.proofs.before_holes.enter_by.Goals as goal

pub sooner-requires-clause-low : goal.sooner-requires-clause-low
sooner-requires-clause-low c = low_from c.args.holes.now (negsuc (2 ^ 39)) c.args.leave c.requires.holes c.requires.leave
