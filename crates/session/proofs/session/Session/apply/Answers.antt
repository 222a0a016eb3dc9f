use Rattle.std.proofs.Common.{refl}
use Rattle.session.proofs.WaitLaws.{opens_plain}
use Rattle.session.proofs.session.Session.apply.Goals as goal

pub returns-clause-step : goal.returns-clause-step
returns-clause-step g c = rw (← c.self.view_is) c.apply.ensures.step

pub returns-clause-opens : goal.returns-clause-opens
returns-clause-opens g c = opens_plain _ _ _ _ _ _ c.apply.ensures.opens
