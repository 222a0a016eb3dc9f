use Rattle.edit_laws.proofs.Stores.{stores_made}
use Rattle.edit_laws.proofs.laws.edits_make_stores.Goals as goal

pub returns : goal.returns
returns f = record { made = stores_made }
