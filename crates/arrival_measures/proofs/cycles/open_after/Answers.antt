use Rattle.std.proofs.Common.{◌≡◌, ◌∙◌, ◌++◌, ℕ, Option, Some, None, ap, sym, subst, arith}
use Rattle.std.specs.Prelude.{IfSome}
use Rattle.hour_sweep.specs.Rows.{known_rows}
use Rattle.service_cut.specs.declared.items.OpenCycle.{OpenCycle}
use Rattle.arrival_measures.specs.Opens.{open_at}
use Rattle.arrival_measures.specs.Crossing.{open_since}
use Rattle.arrival_measures.specs.Steps.{IsUnderWay}
use Rattle.arrival_measures.proofs.Crossing.{cycle_with}
use Rattle.arrival_measures.proofs.cycles.open_after.Goals as goal

pub returns-in_err-cycle : goal.returns-in_err-cycle
returns-in_err-cycle c = λ known before end to e h.
    let p = c.args.phase in
    let found : cycle_with p c.args.cuts.now.open_cycles ≡ None = ap (λ ys. cycle_with p ys) (sym c.open_cycles.ensures) ∙ sym c.open_cycle_of.ensures ∙ c.in_err-cycle.was in
    c.from_residual.ensures ∙ ap (λ o. open_since p c.args.detector to (before ++ known_rows known c.args.rows.now) o) (sym found)

pub returns : goal.returns
returns c = λ known before end to e h.
    let p = c.args.phase in
    let d = c.args.detector in
    let y = c.in_ok-cycle.cycle in
    let rows = c.args.rows.now in
    let X = before ++ known_rows known rows in
    let found : cycle_with p c.args.cuts.now.open_cycles ≡ Some y = ap (λ ys. cycle_with p ys) (sym c.open_cycles.ensures) ∙ sym c.open_cycle_of.ensures ∙ c.in_ok-cycle.was in
    let same : c.saturating_add-end.result ≡ to = (let s = c.saturating_add-end.ensures in omega arith) in
    let under = subst (λ (o : Option OpenCycle). IfSome o (λ z. IsUnderWay known p d before rows c.args.first end c.args.begun z.from to)) found h in
    let here = subst (λ (n : ℕ). IsUnderWay known p d before rows c.args.first end c.args.begun y.from n) (sym same) under in
    ap (λ o. Some o) (c.cycle_given.ensures known before end here ∙ ap (λ n. open_at p d y.from n X) same) ∙ ap (λ o. open_since p d to X o) (sym found)
