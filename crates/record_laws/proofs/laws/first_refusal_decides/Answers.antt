use Rattle.record_laws.proofs.Files.{files_refused}
use Rattle.record_laws.proofs.laws.first_refusal_decides.Goals as goal

pub returns : goal.returns
returns f = record { refused = files_refused }
