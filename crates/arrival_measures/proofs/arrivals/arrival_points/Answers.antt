use Rattle.std.proofs.Common.{◌≡◌, ◌<◌, ◌∙◌, List, ap, sym, subst}
use Rattle.std.specs.Prelude.{All, flat_map}
use Rattle.std.proofs.lemmas.Result.{IfOk-weaker}
use Rattle.sig_base.specs.declared.values.Row.{Row}
use Rattle.board.specs.Logs.{HourLog}
use Rattle.arrival_measures.specs.Points.{ArePicked, ArePointsOf, IsArrival, points_at}
use Rattle.arrival_measures.specs.Views.{IsSeen}
use Rattle.arrival_measures.proofs.Picking.{picked_all, rows_low}
use Rattle.arrival_measures.proofs.arrivals.arrival_points.Goals as goal

pub returns : goal.returns
returns c =
    let s = c.args.config.now in
    let p = c.args.phase in
    let rows = c.args.rows.now in
    let found = c.in_ok-arrivals.arrivals.items in
    IfOk-weaker c.points_among.result
    (λ points. All (λ x. x.at < 26820000) c.deref.result.now → points ≡ flat_map (points_at p 0 s.approaches) c.deref.result.now)
    (λ points. (log : HourLog) → IsSeen s c.args.view.now rows c.args.stretches.now log → ArePointsOf s log p points)
    (λ points told log is.
    let P = IsArrival s log p in
    let picked = c.in_ok-arrivals.ensures log is in
    let own : ArePicked P 0 log.rows found = subst (λ (zs : List Row). ArePicked P 0 zs found) (sym is.same_rows) picked in
    let low = picked_all P (λ x. x.at < 26820000) 0 log.rows found (rows_low log.hour log.rows is.is_view.is_log.is_hour.are_rows) own in
    let here = c.deref.ensures.value in
    record {
      arrivals = found;
      are_arrivals = own;
      are_points = told (subst (λ (zs : List Row). All (λ (x : Row). x.at < 26820000) zs) (sym here) low) ∙ ap (λ zs. flat_map (points_at p 0 s.approaches) zs) here;
    })
    c.points_among.ensures
