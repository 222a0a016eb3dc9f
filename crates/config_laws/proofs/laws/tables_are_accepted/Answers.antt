use Rattle.config_laws.proofs.Walk.{tables_accepted, tables_refused}
use Rattle.config_laws.proofs.laws.tables_are_accepted.Goals as goal

pub returns-clause-accepted : goal.returns-clause-accepted
returns-clause-accepted g f = tables_accepted

pub returns-clause-refused : goal.returns-clause-refused
returns-clause-refused g f = tables_refused
