use Rattle.hour_pack.proofs.NumberFacts.{spelling-one, spelling-apart, spelled}
use Rattle.hour_pack.proofs.laws.numbers_have_one_spelling.Goals as goal

pub returns-clause-one : goal.returns-clause-one
returns-clause-one c = spelling-one

pub returns-clause-apart : goal.returns-clause-apart
returns-clause-apart c = spelling-apart

pub returns-clause-each : goal.returns-clause-each
returns-clause-each c = spelled
