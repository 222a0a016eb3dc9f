use Rattle.std.proofs.Common.{◌∙◌, ap, sym}
use Rattle.hour_work.specs.Points.{Carried}
use Rattle.hour_work.proofs.MovedLaws.{one_carried, says_refl}
use Rattle.hour_work.proofs.carry.Carry.same.Goals as goal

pub returns-clause-value : goal.returns-clause-value
returns-clause-value c =
    let own = ap (λ (x : Carried). x.pasts) c.self.view_is in
    let other = ap (λ (x : Carried). x.pasts) c.other.view_is in
    let pasts = sym own ∙ (c.same.ensures.value.0 c.if-not-same.false ∙ other) in
    let rest = c.same_under_way.ensures in (
      λ t. let (k, u, w, p, o, a) = rest.0 t in one_carried c.args.self.now c.args.other.now pasts k u w p o a,
      λ e. rest.1 (ap (λ (x : Carried). x.known) e, ap (λ (x : Carried). x.cuts) e, ap (λ (x : Carried). x.closing) e, ap (λ (x : Carried). x.splits) e, ap (λ (x : Carried). x.others) e, ap (λ (x : Carried). x.arrivals) e),
    )

pub returns-clause-says : goal.returns-clause-says
returns-clause-says c =
    let own = ap (λ (x : Carried). x.pasts) c.self.view_is in
    let other = ap (λ (x : Carried). x.pasts) c.other.view_is in
    let pasts = sym own ∙ (c.same.ensures.value.0 c.if-not-same.false ∙ other) in
    let rest = c.same_under_way.ensures in (
      λ t. let (k, u, w, p, o, a) = rest.0 t in says_refl c.args.self.now c.args.other.now (one_carried c.args.self.now c.args.other.now pasts k u w p o a),
      λ s. rest.1 (s.known, s.cuts, s.closing, s.splits, s.others, s.arrivals),
    )
