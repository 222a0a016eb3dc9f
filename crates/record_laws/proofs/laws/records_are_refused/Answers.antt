use Rattle.record_laws.proofs.Records.{rows_refused}
use Rattle.record_laws.proofs.laws.records_are_refused.Goals as goal

pub returns : goal.returns
returns f = record { refusal = rows_refused }
