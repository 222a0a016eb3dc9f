use Rattle.session.proofs.OpenLaws.{opened_raised}
use Rattle.session.proofs.steps.carry_stays.Goals as goal

pub returns-in_err-carry-clause-once : goal.returns-in_err-carry-clause-once
returns-in_err-carry-clause-once g c = opened_raised _ _ c.args.hour c.open_hour.ensures.raised

pub returns-clause-once : goal.returns-clause-once
returns-clause-once g c = opened_raised _ _ c.args.hour c.open_hour.ensures.raised
