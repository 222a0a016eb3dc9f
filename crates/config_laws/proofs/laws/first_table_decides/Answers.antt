use Rattle.config_laws.proofs.Refusals.{details_refused, documents_refused, layouts_refused}
use Rattle.config_laws.proofs.laws.first_table_decides.Goals as goal

pub returns-clause-layouts : goal.returns-clause-layouts
returns-clause-layouts f = layouts_refused

pub returns-clause-details : goal.returns-clause-details
returns-clause-details f = details_refused

pub returns-clause-documents : goal.returns-clause-documents
returns-clause-documents f = documents_refused
