use Rattle.std.proofs.Common.{◌≡◌, ◌∙◌, ◌+◌, ◌*◌, Bool, List, Option, Some, ap, subst, sym}
use Rattle.std.specs.Prelude.{is_some}
use Rattle.std.proofs.lemmas.Result.{IfOk-weaker}
use Rattle.sig_base.specs.declared.values.Row.{Row}
use Rattle.gap_map.specs.Stretches.{IsCut, known_in}
use Rattle.board.specs.Logs.{HourLog}
use Rattle.hour_store.specs.Store.{Store, is_known}
use Rattle.signal_log.specs.Points.{HasHour, rows_or_none}
use Rattle.arrival_measures.specs.Points.{ArePointsOf, points_from}
use Rattle.arrival_measures.specs.Views.{IsSeen}
use Rattle.hour_work.specs.Points.{IsCarryAt}
use Rattle.hour_work.specs.Rows.{earlier_rows, own_rows}
use Rattle.hour_work.proofs.PickedLaws.{seen_points_of}
use Rattle.hour_work.proofs.points.points_over.Goals as goal

pub returns-in-Some : goal.returns-in-Some
returns-in-Some c =
    let cfg = c.args.config.now in
    let o = c.args.place.now in
    let phase = c.args.phase in
    let hour = o.hour in
    let rows = rows_or_none o.rows in
    let before = c.args.between.now.before.now in
    let (s, is) = c.requires.agrees in
    let seen = (rw c.in-Some.is at c.in_ok-view.ensures) s is in
    let told = rw (c.rows.ensures.value, c.stretches-parts.ensures.value) at c.arrival_points.ensures in
    let some : o.rows ≡ Some rows = sym is.has_hour.held ∙ seen.between.has_hour.held in
    let cut = subst (λ (b : Bool). IsCut (known_in b o.blanks) (36000 * hour) (36000 * hour + 36000) o.stretches) (ap is_some some) c.stretches-parts.ensures.opened.cut in
    IfOk-weaker c.arrival_points.result
    (λ points. (log : HourLog) → IsSeen cfg _ rows _ log → ArePointsOf cfg log phase points)
    (λ points. (p : Store) → HasHour p hour o.rows o.blanks → IsCarryAt cfg p hour before → points ≡ points_from (is_known p) cfg phase (earlier_rows p hour) (own_rows p hour))
    (λ points h p has carry. seen_points_of cfg s hour before rows _ _ seen phase points h o.blanks cut p (subst (λ (r : Option (List Row)). HasHour p hour r o.blanks) some has) carry)
    told
