use Rattle.std.proofs.Common.{◌∙◌, refl}
use Rattle.std.specs.Prelude.{is_some}
use Rattle.hour_work.proofs.PointLaws.{known_after}
use Rattle.hour_work.proofs.steps.kept.Goals as goal

pub returns-clause-carry : goal.returns-clause-carry
returns-clause-carry c = λ cfg s has pasts way. record {
  pasts = pasts;
  known = c.is_end_known.ensures ∙ known_after s c.args.place.now.hour c.args.place.now.rows c.args.place.now.blanks (is_some c.args.place.now.rows) has refl;
  cuts = way.cuts;
  closing = way.closing;
  splits = way.splits;
  others = way.others;
  arrivals = way.arrivals;
}
