use Rattle.std.proofs.Common.{◌≡◌, ◌∙◌, ◌+◌, ◌-◌, ◌^◌, ◌≤◌, ◌++◌, leb, ℕ, List, Some, map, ap, sym, subst, arith}
use Rattle.std.specs.Prelude.{min}
use Rattle.std.specs.List.{filter}
use Rattle.sig_base.specs.declared.values.Row.{Row}
use Rattle.hour_sweep.specs.Rows.{known_rows}
use Rattle.hour_sweep.specs.Hours.{AreOrdered, point}
use Rattle.service_cut.specs.Cycles.{cycle_begun_of}
use Rattle.arrival_measures.specs.Arrivals.{is_on}
use Rattle.arrival_measures.specs.Own.{turns_green}
use Rattle.arrival_measures.specs.declared.carry.Crossing.{Crossing}
use Rattle.arrival_measures.specs.Crossing.{open_since, open_with, pending_with}
use Rattle.arrival_measures.specs.Onward.{counts_from}
use Rattle.arrival_measures.specs.Travel.{arrivals_at, from_tenth, told}
use Rattle.arrival_measures.specs.Steps.{IsOpenUnderWay, merged}
use Rattle.arrival_measures.proofs.Crossing.{cycle_with, open_found, open_is_cycle, open_same}
use Rattle.arrival_measures.proofs.Hours.{has_some, hour_ordered}
use Rattle.arrival_measures.proofs.Onward.{arriving_late, counts_early, few, few_given, few_under_way, last, last_ordered, pending_same}
use Rattle.arrival_measures.proofs.Telling.{early}
use Rattle.arrival_measures.proofs.Travels.{kept_ordered, late_late}
use Rattle.arrival_measures.proofs.carry_over.detector_after.Goals as goal

pub returns : goal.returns
returns c = λ known s before hour are cut of_it cross.
    let is_adv = c.requires in
    let rows = c.args.hour.now.rows.now in
    let passing = c.args.hour.now.passing.now in
    let t = point hour in
    let to = point (hour + 1) in
    let a = c.args.approach.now in
    let p = a.phase in
    let d = c.args.detector in
    let v = a.travel in
    let seen = known_rows known rows in
    let first = are.ordered in
    let in_range = are.is_hour.are_rows.in_range in
    let or = hour_ordered known hour rows c.args.hour.now.stretches.now are.is_hour in
    let tr = of_it.travel in
    let begins = are.first in
    let has = has_some s a.advance d is_adv of_it.advance in
    let o = cycle_with p c.args.cuts.now.open_cycles in
    let found : c.open_cycle_of.result ≡ o = c.open_cycle_of.ensures ∙ ap (λ ys. cycle_with p ys) c.open_cycles.ensures in
    let u = c.counts_from-from.result in
    let counts : u ≡ counts_from t o = c.counts_from-from.ensures ∙ ap (λ q. counts_from c.args.hour.now.first q) found ∙ ap (λ n. counts_from n o) begins in
    let E = early known p d v t before rows first or tr in
    let L = last known p d v t u before rows first or tr in
    let F = few known p d v t u before rows first or tr in
    let T = told known p d v (before ++ seen) in
    let old = c.args.crossing.now in
    let begun : old.begun ≡ open_with known t before a (Some d) = ap (λ (z : Crossing). z.begun) cross ∙ ap (λ q. open_with known t before a q) is_adv in
    let pended : old.pending ≡ pending_with known t before a (Some d) = ap (λ (z : Crossing). z.pending) cross ∙ ap (λ q. pending_with known t before a q) is_adv in
    let is_cycle = open_is_cycle known s a d before hour rows c.args.cuts.now old.begun are.earlier or cut of_it.phase begun in
    let end : to ≡ t + 36000 = omega arith in
    let passes : c.deref.result.now ≡ filter (is_on d) (from_tenth (u - v) passing) =
    c.deref.ensures.value ∙ c.in_ok-passes.ensures ∙ ap (λ zs. filter (is_on d) zs) (c.rows_from-passing.ensures t (t + 36000) are.in_order ∙ ap (λ n. from_tenth n passing) (let e : c.saturating_sub.result ≡ u - v = (let f = c.saturating_sub.ensures in omega arith) in e)) in
    let passes_in_order = subst (λ (zs : List Row). AreOrdered t (t + 36000) zs) (sym passes) (kept_ordered (is_on d) t (t + 36000) t (from_tenth (u - v) passing) (omega arith) (kept_ordered (λ x. leb (u - v) x.at) t (t + 36000) t passing (omega arith) are.in_order)) in
    let ons : c.in_ok-ons.ons.items ≡ known_rows known (filter (is_on d) (from_tenth (u - v) passing)) =
    c.in_ok-ons.ensures known t (t + 36000) are.is_hour.are_stretches passes_in_order ∙ ap (λ zs. known_rows known zs) passes in
    let arrives : c.in_ok-arriving.arriving.items ≡ L =
    arriving_late known p d v t u before rows first or tr c.list.result.now passing c.deref-2.result.now c.in_ok-arriving.arriving.items (omega arith) (are.arrivals d has)
    (c.list.ensures ∙ pended) (c.deref-2.ensures.value ∙ ons) c.in_ok-arriving.ensures in
    let turned : c.deref-3.result.now ≡ filter (turns_green p) (from_tenth u rows) = c.deref-3.ensures.value ∙ c.in_ok-turns.ensures ∙ ap (λ zs. filter (turns_green p) zs) (c.rows_from.ensures t (t + 36000) or) in
    let owned : c.deref-5.result.now ≡ F =
    c.deref-5.ensures.value ∙ c.in_ok-own.ensures ∙ ap (λ zs. merged zs c.deref-4.result.now) turned
    ∙ ap (λ zs. merged (filter (turns_green p) (from_tenth u rows)) zs) (c.deref-4.ensures.value ∙ arrives) in
    let open1 = few_under_way known p d v t u before rows first or tr old.begun to o are.earlier is_cycle in
    let open2 = subst (λ (zs : List Row). IsOpenUnderWay known p d E zs t (t + 36300) old.begun to o) (sym owned) open1 in
    let open3 = subst (λ (n : ℕ). IsOpenUnderWay known p d E c.deref-5.result.now n (t + 36300) old.begun to o) (sym begins) open2 in
    let at_end : to ≡ min (c.args.hour.now.first + 36000) (2 ^ 32 - 1) = omega arith in
    let begun_after : c.open_after-begun.result ≡ open_with known to (before ++ seen) a (Some d) =
    c.open_after-begun.ensures known E (t + 36300) to at_end open3
    ∙ ap (λ zs. open_since p d to (E ++ known_rows known zs) o) owned
    ∙ few_given known p d v t u before rows first or tr old.begun to o counts is_cycle
    ∙ ap (λ q. open_since p d to T q) (open_found known s p before hour rows c.args.cuts.now cut of_it.phase)
    ∙ open_same p d to T (cycle_begun_of known to p (before ++ seen)) in
    let arriving_here = c.deref-6.ensures.value ∙ arrives in
    let in_time : u ≤ to = counts_early known p d t u (told known p d v before) old.begun to o counts end is_cycle in
    let pending_after : c.in_ok-pending.pending ≡ pending_with known to (before ++ seen) a (Some d) =
    c.in_ok-pending.ensures t (t + 36300) (subst (λ (zs : List Row). AreOrdered t (t + 36300) zs) (sym arriving_here) (last_ordered known p d v t u before rows first or tr))
    ∙ ap (λ n. map (λ (x : Row). x.at) (from_tenth n c.deref-6.result.now)) (let e : c.saturating_add.result ≡ to = (let f = c.saturating_add.ensures in omega arith) in e)
    ∙ ap (λ zs. map (λ (x : Row). x.at) (from_tenth to zs)) arriving_here
    ∙ ap (λ zs. map (λ (x : Row). x.at) zs) (pending_same known p d v t u before rows first or tr to in_time ∙ late_late t to (arrivals_at known d v (before ++ seen)) (omega arith)) in
    ap (λ q. let z : Crossing = record { begun = q; pending = c.in_ok-pending.pending } in z) (begun_after ∙ ap (λ q. open_with known to (before ++ seen) a q) (sym is_adv))
    ∙ ap (λ q. let z : Crossing = record { begun = open_with known to (before ++ seen) a a.advance; pending = q } in z) (pending_after ∙ ap (λ q. pending_with known to (before ++ seen) a q) (sym is_adv))
