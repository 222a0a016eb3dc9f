use Rattle.std.proofs.Common.{List, subst, sym}
use Rattle.sig_base.specs.declared.values.Row.{Row}
use Rattle.filling_pair.specs.Kept.{IsPlaceOf}
use Rattle.filling_pair.proofs.check.check_one.Goals as goal

pub keeps_by-requires-clause-place : goal.keeps_by-requires-clause-place
keeps_by-requires-clause-place g c = (c.args.line.now.at, subst (λ (rs : List Row). IsPlaceOf rs c.args.line.now.at c.args.line.now.place) (sym c.requires.rows) c.requires.line.place)
