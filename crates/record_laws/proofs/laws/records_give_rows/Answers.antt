use Rattle.record_laws.proofs.Records.{rows_given}
use Rattle.record_laws.proofs.laws.records_give_rows.Goals as goal

pub returns : goal.returns
returns f = record { row = rows_given }
