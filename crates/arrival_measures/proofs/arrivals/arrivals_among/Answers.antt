use Rattle.std.proofs.Common.{◌≡◌, ◌<◌, ◌≤◌, ◌∙◌, List, ap, subst, length, refl, arith}
use Rattle.std.proofs.lemmas.List.{take_all}
use Rattle.sig_base.specs.declared.values.Row.{Row}
use Rattle.sig_base.proofs.Common.{clash}
use Rattle.board.specs.Logs.{no_row}
use Rattle.arrival_measures.specs.Points.{ArePicked, IsArrival}
use Rattle.arrival_measures.proofs.Picking.{picked_none, picked_off, picked_on}
use Rattle.arrival_measures.proofs.arrivals.arrivals_among.Goals as goal
use Rattle.arrival_measures.proofs.arrivals.arrivals_among.Goals.{then-is_arrival+in_ok-push, else-is_arrival}

pub loop-i-init : goal.loop-i-init
loop-i-init c = λ log is. picked_none (IsArrival c.args.config.now log c.args.phase) 0 _ c.new-arrivals.ensures.items

pub loop-i-preserved : goal.loop-i-preserved
loop-i-preserved c = λ log is.
    let rows = c.args.rows.now in
    let i = c.loop-i.i in
    let within = c.numbered-i-end.ensures.within in
    let lt : i < length rows = omega arith in
    let P = IsArrival c.args.config.now log c.args.phase in
    let tells = c.is_arrival.ensures log rows is lt refl in
    elim c.if-is_arrival.branch [
      | then-is_arrival+in_ok-push w ↦ picked_on P rows i no_row c.loop-i.arrivals.items _ lt (tells.0 w.if-is_arrival.true) (ap (λ v. v.items) w.arrivals-is ∙ w.in_ok-push.ensures.items) (c.loop-i.invariant log is)
      | else-is_arrival w ↦ picked_off P rows i no_row c.loop-i.arrivals.items _ lt (λ p. clash c.is_arrival.result (tells.1 p) w.if-is_arrival.false) (ap (λ v. v.items) w.arrivals-is) (c.loop-i.invariant log is)
    ]

pub returns : goal.returns
returns c = λ log is.
    let few : length c.args.rows.now ≤ 400000 = subst (λ (zs : List Row). length zs ≤ 400000) is.same_rows is.is_view.is_log.is_hour.are_rows.few in
    let all = c.numbered-i-end.ensures.all in
    let count : c.numbered-i-end.result ≡ length c.args.rows.now = all (omega arith) in
    subst (λ (zs : List Row). ArePicked (IsArrival c.args.config.now log c.args.phase) 0 zs c.loop-i.arrivals.items)
    (take_all c.loop-i.i c.args.rows.now (omega arith))
    (c.loop-i.invariant log is)
