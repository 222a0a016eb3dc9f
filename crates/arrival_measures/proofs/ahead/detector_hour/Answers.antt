use Rattle.std.proofs.Common.{◌≡◌, ◌∙◌, ◌+◌, ◌-◌, ◌^◌, ◌++◌, ℕ, List, Some, map, ap, sym, subst, arith}
use Rattle.std.specs.Prelude.{min}
use Rattle.std.specs.List.{filter}
use Rattle.sig_base.specs.declared.values.Row.{Row}
use Rattle.hour_sweep.specs.Sums.{own as own_of_phase}
use Rattle.hour_sweep.specs.Rows.{known_rows}
use Rattle.hour_sweep.specs.Hours.{AreOrdered, point}
use Rattle.service_cut.specs.declared.items.Cycle.{Cycle}
use Rattle.arrival_measures.specs.Arrivals.{is_on}
use Rattle.arrival_measures.specs.Own.{turns_green}
use Rattle.arrival_measures.specs.declared.carry.Crossing.{Crossing}
use Rattle.arrival_measures.specs.Crossing.{open_since, open_with, pending_with}
use Rattle.arrival_measures.specs.Cycles.{numbers_of}
use Rattle.arrival_measures.specs.Hours.{cycle_numbers}
use Rattle.arrival_measures.specs.Travel.{arrivals_at, from_tenth, told}
use Rattle.arrival_measures.specs.Steps.{AreUnderWay, GiveSame, IsOpenUnderWay, arriving_with, merged}
use Rattle.arrival_measures.proofs.Arriving.{arriving_is, open_given, open_under_way}
use Rattle.arrival_measures.proofs.Crossing.{are_cycles_of, cycle_with, open_found, open_is_cycle, open_same}
use Rattle.arrival_measures.proofs.Hours.{has_some, hour_ordered}
use Rattle.arrival_measures.proofs.Own.{turns_kept}
use Rattle.arrival_measures.proofs.Telling.{are_under_way, early, give_same, in_order, late, own}
use Rattle.arrival_measures.proofs.Travels.{late_late}
use Rattle.arrival_measures.proofs.ahead.detector_hour.Goals as goal
use Rattle.service_cut.specs.Cycles.{cycle_begun_of}

pub returns : goal.returns
returns c = λ known s before rows hour are cut of_it cross.
    let is_adv = c.requires in
    let t = point hour in
    let to = point (hour + 1) in
    let a = c.args.approach.now in
    let p = a.phase in
    let d = c.args.detector in
    let v = a.travel in
    let seen = known_rows known rows in
    let first = are.ordered in
    let or = hour_ordered known hour rows c.args.sources.now.stretches.now are.is_hour in
    let tr = of_it.travel in
    let few = are.is_hour.are_rows.in_range in
    let has = has_some s a.advance d is_adv of_it.advance in
    let E = early known p d v t before rows first or tr in
    let L = late known p d v t before rows first or tr in
    let O = own known p d v t before rows first or tr in
    let T = told known p d v (before ++ seen) in
    let begun : c.args.crossing.now.begun ≡ open_with known t before a (Some d) = ap (λ (z : Crossing). z.begun) cross ∙ ap (λ o. open_with known t before a o) is_adv in
    let pended : c.args.crossing.now.pending ≡ pending_with known t before a (Some d) = ap (λ (z : Crossing). z.pending) cross ∙ ap (λ o. pending_with known t before a o) is_adv in
    let arrives : c.in_ok-arriving.arriving.items ≡ L =
    arriving_is known s p d v t before rows first or tr c.list.result.now c.deref.result.now c.in_ok-arriving.arriving.items (omega arith) has
    (c.list.ensures ∙ pended) (c.deref.ensures.value ∙ c.in_ok-ons.ensures ∙ ap (λ zs. filter (is_on d) zs) are.arrivals) c.in_ok-arriving.ensures in
    let turns : c.deref-2.result.now ≡ filter (turns_green p) rows = c.deref-2.ensures.value ∙ c.in_ok-turns.ensures ∙ ap (λ zs. filter (turns_green p) zs) are.turns ∙ turns_kept p rows in
    let owned : c.in_ok-own.own.items ≡ O = c.in_ok-own.ensures ∙ ap (λ zs. merged zs c.deref-3.result.now) turns ∙ ap (λ zs. merged (filter (turns_green p) rows) zs) (c.deref-3.ensures.value ∙ arrives) in
    let all_cycles = are_cycles_of known s a d before hour rows c.args.cuts.now c.args.crossing.now.begun are.earlier or cut begun in
    let under = are_under_way known p d v t before rows first or tr c.args.crossing.now.begun c.args.cuts.now.cycles are.earlier all_cycles in
    let same = give_same known p d v t before rows first or tr c.args.crossing.now.begun c.args.cuts.now.cycles all_cycles in
    let own_here = c.deref-4.ensures.value ∙ owned in
    let under1 = subst (λ (zs : List Row). AreUnderWay known p d E zs t (t + 36300) c.args.crossing.now.begun c.args.cuts.now.cycles) (sym own_here) under in
    let under2 = subst (λ (n : ℕ). AreUnderWay known p d E c.deref-4.result.now n (t + 36300) c.args.crossing.now.begun c.args.cuts.now.cycles) (sym are.first) under1 in
    let under3 = subst (λ (cs : List Cycle). AreUnderWay known p d E c.deref-4.result.now c.args.sources.now.first (t + 36300) c.args.crossing.now.begun cs) (sym c.cycles.ensures) under2 in
    let same1 = subst (λ (zs : List Row). GiveSame p d (E ++ known_rows known zs) T c.args.cuts.now.cycles) (sym own_here) same in
    let same2 = subst (λ (cs : List Cycle). GiveSame p d (E ++ known_rows known c.deref-4.result.now) T cs) (sym c.cycles.ensures) same1 in
    let open_here = c.deref-5.ensures.value ∙ owned in
    let o = cycle_with p c.args.cuts.now.open_cycles in
    let is_cycle = open_is_cycle known s a d before hour rows c.args.cuts.now c.args.crossing.now.begun are.earlier or cut of_it.phase begun in
    let open1 = open_under_way known p d v t before rows first or tr c.args.crossing.now.begun to o are.earlier is_cycle in
    let open2 = subst (λ (zs : List Row). IsOpenUnderWay known p d E zs t (t + 36300) c.args.crossing.now.begun to o) (sym open_here) open1 in
    let open3 = subst (λ (n : ℕ). IsOpenUnderWay known p d E c.deref-5.result.now n (t + 36300) c.args.crossing.now.begun to o) (sym are.first) open2 in
    let at_end : to ≡ min (c.args.sources.now.first + 36000) (2 ^ 32 - 1) = (let f = are.first in omega arith) in
    let begun_after : c.open_after-begun.result ≡ open_with known to (before ++ seen) a (Some d) =
    c.open_after-begun.ensures known E (t + 36300) to at_end open3
    ∙ ap (λ zs. open_since p d to (E ++ known_rows known zs) o) open_here
    ∙ open_given known p d v t before rows first or tr c.args.crossing.now.begun to o is_cycle
    ∙ ap (λ q. open_since p d to T q) (open_found known s p before hour rows c.args.cuts.now cut of_it.phase)
    ∙ open_same p d to T (cycle_begun_of known to p (before ++ seen)) in
    let end : c.saturating_add-end.result ≡ to = (let f = are.first in let e = c.saturating_add-end.ensures in omega arith) in
    let arriving_here = c.deref-6.ensures.value ∙ arrives in
    let ordered = subst (λ (zs : List Row). AreOrdered t (t + 36300) zs) (sym arriving_here) (in_order known p d v t before rows first or tr) in
    let pending_after : c.in_ok-pending.pending ≡ pending_with known to (before ++ seen) a (Some d) =
    c.in_ok-pending.ensures t (t + 36300) ordered
    ∙ ap (λ zs. map (λ (x : Row). x.at) (from_tenth c.saturating_add-end.result zs)) arriving_here
    ∙ ap (λ n. map (λ (x : Row). x.at) (from_tenth n L)) end
    ∙ ap (λ zs. map (λ (x : Row). x.at) zs) (late_late t to (arrivals_at known d v (before ++ seen)) (omega arith)) in
    record {
      arriving = arrives ∙ ap (λ q. arriving_with known t (before ++ seen) a q) (sym is_adv);
      cycles =
          c.cycle_sum-cycles.ensures known E T (t + 36300) under3 same2
          ∙ ap (λ cs. numbers_of p d T (own_of_phase (λ (z : Cycle). z.phase) p cs)) (c.cycles.ensures ∙ cut.cycles_are)
          ∙ ap (λ q. cycle_numbers known s before seen a q) (sym is_adv);
      crossing =
          ap (λ q. let z : Crossing = record { begun = q; pending = c.in_ok-pending.pending } in z) (begun_after ∙ ap (λ q. open_with known to (before ++ seen) a q) (sym is_adv))
          ∙ ap (λ q. let z : Crossing = record { begun = open_with known to (before ++ seen) a a.advance; pending = q } in z) (pending_after ∙ ap (λ q. pending_with known to (before ++ seen) a q) (sym is_adv));
    }
