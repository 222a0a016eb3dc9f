use Rattle.decisive.proofs.Lawful.{broken_grows, broken_stays, idle_stays, less_only, more_whole, open_before, states_stay}
use Rattle.decisive.proofs.laws.more_is_known.Goals as goal

pub returns-clause-only : goal.returns-clause-only
returns-clause-only c = less_only

pub returns-clause-whole : goal.returns-clause-whole
returns-clause-whole c = more_whole

pub returns-clause-states : goal.returns-clause-states
returns-clause-states c = states_stay

pub returns-clause-broken : goal.returns-clause-broken
returns-clause-broken c = broken_stays

pub returns-clause-idle : goal.returns-clause-idle
returns-clause-idle c = idle_stays

pub returns-clause-open : goal.returns-clause-open
returns-clause-open c = open_before

pub returns-clause-grows : goal.returns-clause-grows
returns-clause-grows c = broken_grows
