use Rattle.session.specs.Renewed.{AreSameUpTo}
use Rattle.session.proofs.renew.start_of.Given as goal

abbrev pub invariant-loop-hour : goal.invariant-loop-hour
invariant-loop-hour l = AreSameUpTo l.worked.carries.items l.worked.futures.items l.from l.futures l.hour
