use Rattle.lost_laws.proofs.Sturdy.{ends_have, holds_none}
use Rattle.lost_laws.proofs.laws.sturdy_clauses_hold_none.Goals as goal

pub returns : goal.returns
returns c = record { none = holds_none; states = ends_have }
