use Rattle.config_laws.proofs.Document.{configurations_accepted}
use Rattle.config_laws.proofs.Files.{files_accepted}
use Rattle.config_laws.proofs.laws.configurations_are_accepted.Goals as goal

pub returns-clause-documents : goal.returns-clause-documents
returns-clause-documents f = configurations_accepted

pub returns-clause-files : goal.returns-clause-files
returns-clause-files f = files_accepted
