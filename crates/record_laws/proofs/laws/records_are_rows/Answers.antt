use Rattle.record_laws.proofs.Files.{files_give}
use Rattle.record_laws.proofs.laws.records_are_rows.Goals as goal

pub returns : goal.returns
returns f = record { rows = files_give }
