use Rattle.std.proofs.Common.{◌≡◌, ◌+◌, ◌<◌, ◌∙◌, ap, length, length-append, sym, subst, List, ℤ, ℕ, arith}
use Rattle.std.proofs.lemmas.Int.{ints, to_z-of_z}
use Rattle.std.proofs.lemmas.Slice.Eq.{slice_eq-Decides}
use Rattle.std.proofs.lemmas.Bool.Decides.{Decides-int_eq}
use Rattle.reach.proofs.Arriving.{round_arrivals, fixed_gap}
use Rattle.gap_ways.proofs.Layers.{Behind, few_before, next_behind, next_round, rounds_more}
use Rattle.gap_ways.proofs.rounds.run_rounds.Goals as goal

pub leaves-leave-requires : goal.leaves-leave-requires
leaves-leave-requires g c =
    let rf = c.ranges.from in let rt = c.ranges.to in
    let was = simp to_z-of_z at c.rounds.invariant.arrivals in
    λ d lt. let w = (was.1 d lt).1 in let h = c.requires.high in omega (arith, ints)

pub relax-requires : goal.relax-requires
relax-requires g c =
    let rf = c.ranges.from in let rt = c.ranges.to in
    let was = simp to_z-of_z at c.rounds.invariant.arrivals in
    λ d lt. let w = (was.1 d lt).1 in omega (arith, ints)

pub returns-then-eq-clause-rounds : goal.returns-then-eq-clause-rounds
returns-then-eq-clause-rounds g c =
    let m = g.M.Machine.rules c.args.machine.now in
    let laws = g.met.M.Machine.laws c.args.machine.now in
    let rf = c.ranges.from in let rt = c.ranges.to in
    let was = simp to_z-of_z at c.rounds.invariant in
    let same = (slice_eq-Decides Decides-int_eq c.relax.new.arrival c.rounds.arrival _ c.eq.ensures).0 c.if-eq.true in
    (c.rounds.arrival, (was.arrivals, fixed_gap m laws c.args.past.now c.args.from c.args.to c.requires.some c.args.departure.now c.leaves-leave.result c.rounds.arrival c.relax.new.arrival c.requires.colours c.requires.first c.leaves-leave.ensures c.relax.ensures was.arrivals same), was.rounds)

few : (g : _) (c : goal.In_ok-push g) → length c.rounds.tables.items < 16
few g c =
    let m = g.M.Machine.rules c.args.machine.now in
    let laws = g.met.M.Machine.laws c.args.machine.now in
    let was = c.rounds.invariant in
    few_before m laws c.args.departure.now c.leaves-leave.result c.rounds.arrival c.relax.new.arrival c.leaves-leave.ensures c.relax.ensures (length c.rounds.tables.items) was.behind was.arrivals.0 (λ e. let t = (slice_eq-Decides Decides-int_eq _ _ _ c.eq.ensures).1 e in absurd (cc))

one_more : (g : _) (c : goal.In_ok-push g) → length c.push.new.self.items ≡ length c.rounds.tables.items + 1
one_more g c = ap (λ (z : List (List ℤ)). length z) c.in_ok-push.ensures.items ∙ length-append c.rounds.tables.items _

pub rounds-smaller : goal.rounds-smaller
rounds-smaller g c = let i = few g c in let j = one_more g c in omega arith

pub rounds-preserved : goal.rounds-preserved
rounds-preserved g c =
    let m = g.M.Machine.rules c.args.machine.now in
    let laws = g.met.M.Machine.laws c.args.machine.now in
    let rf = c.ranges.from in let rt = c.ranges.to in
    let was = simp to_z-of_z at c.rounds.invariant in
    let lv = c.leaves-leave.ensures in let low = c.relax.ensures in
    let i = few g c in
    let j = one_more g c in
    simp to_z-of_z (record {
      arrivals = round_arrivals m laws c.args.past.now c.args.from c.args.to c.requires.some c.args.departure.now c.leaves-leave.result c.rounds.arrival c.relax.new.arrival c.requires.colours c.requires.first lv low was.arrivals;
      rounds = rounds_more m c.args.from c.args.to c.args.departure.now c.rounds.arrival c.relax.new.arrival c.rounds.tables.items c.push.new.self.items c.in_ok-push.ensures.items (λ d lt. let w = was.arrivals.1 d lt in (w.0, w.1)) (next_round m laws c.args.departure.now c.leaves-leave.result c.rounds.arrival c.relax.new.arrival lv low) was.rounds;
      behind = subst (λ (n : ℕ). Behind m c.args.departure.now n c.relax.new.arrival) (sym j) (next_behind m laws c.args.departure.now c.leaves-leave.result c.rounds.arrival c.relax.new.arrival lv low (length c.rounds.tables.items) was.behind);
      few = omega arith;
    })
