use Rattle.record_laws.proofs.Trims.{fields_trimmed}
use Rattle.record_laws.proofs.laws.fields_are_trimmed.Goals as goal

pub returns : goal.returns
returns f = record { fields = fields_trimmed }
