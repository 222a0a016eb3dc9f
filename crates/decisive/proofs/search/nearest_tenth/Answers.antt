use Rattle.std.proofs.Common.{ap, sym}
use Rattle.sig_base.specs.declared.values.Row.{Row}
use Rattle.decisive.proofs.search.nearest_tenth.Goals as goal

pub returns-in-Some : goal.returns-in-Some
returns-in-Some c = (c.in-Some.i, rw c.in-Some.is at c.in_ok-i.ensures, ap (λ (r : Row). r.at) (sym c.row_from.ensures))
