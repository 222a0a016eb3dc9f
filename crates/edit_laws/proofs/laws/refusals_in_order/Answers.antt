use Rattle.edit_laws.proofs.Refusals.{refused_in_order}
use Rattle.edit_laws.proofs.laws.refusals_in_order.Goals as goal

pub returns : goal.returns
returns f = record { refused = refused_in_order }
