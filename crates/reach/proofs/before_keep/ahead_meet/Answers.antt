use Rattle.reach.proofs.Later.{meet_states, meet_table}
use Rattle.reach.proofs.before_keep.ahead_meet.Goals as goal

pub invariant_of-ahead : goal.invariant_of-ahead
invariant_of-ahead c = meet_table c.ahead.inside.colours c.ahead.inside.latest c.args.limits.now c.meet_all-ahead-inside.result c.meet_all-ahead-inside.ensures c.ahead.invariant

pub returns-clause-states : goal.returns-clause-states
returns-clause-states c = meet_states c.ahead.inside.colours c.ahead.inside.latest c.args.limits.now c.meet_all-ahead-inside.result c.args.ahead.now c.meet_all-ahead-inside.ensures c.ahead.invariant c.ahead.view_is
