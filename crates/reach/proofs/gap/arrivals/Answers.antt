use Rattle.std.proofs.Common.{arith, sym, refl, ◌∙◌, ◌<◌, ◌≤ℤ◌, ℕ}
use Rattle.std.proofs.lemmas.Int.{ints, to_z-of_z}
use Rattle.reach.specs.Sets.{at}
use Rattle.reach.proofs.Arriving.{least, least_at, none_late, none_by_end, none_arrive, round_arrivals, round_late, fixed_gap, total_falls}
use Rattle.reach.proofs.gap.arrivals.Goals as goal

late : (g : _) (c : goal.Else-same_tenths g) → (d : ℕ) → d < 16 → least c.args.to c.args.departure.now ≤ℤ at c.relax.new.arrival d
late g c =
    let m = g.M.Machine.rules c.args.machine.now in
    let laws = g.met.M.Machine.laws c.args.machine.now in
    let few = laws.few_colours in
    let rt = c.ranges.to in
    let was = simp to_z-of_z at c.rounds.invariant in
    round_late m laws (least c.args.to c.args.departure.now) c.args.departure.now c.leaves-leave.result c.rounds.arrival c.relax.new.arrival (λ k lt. least_at c.args.to c.args.departure.now k (omega arith)) c.leaves-leave.ensures c.relax.ensures was.late

pub rounds-init : goal.rounds-init
rounds-init g c =
    let rf = c.ranges.from in let rt = c.ranges.to in
    record {
      size = refl;
      late = λ d lt. none_late _ c.args.departure.now d lt;
      by_end = λ d lt. none_by_end _ d lt;
      are = λ sets size first. none_arrive _ sets _ _ (simp to_z-of_z c.requires.some);
    }

pub rounds-preserved : goal.rounds-preserved
rounds-preserved g c =
    let m = g.M.Machine.rules c.args.machine.now in
    let laws = g.met.M.Machine.laws c.args.machine.now in
    let rf = c.ranges.from in let rt = c.ranges.to in
    let was = simp to_z-of_z at c.rounds.invariant in
    simp to_z-of_z (record {
      size = c.relax.ensures.0;
      late = late g c;
      by_end = λ d h. let i = was.by_end d h in let j = (c.relax.ensures.1 d h).0 in omega (arith, ints);
      are = λ sets size first. round_arrivals m laws sets c.args.from c.args.to c.requires.some c.args.departure.now c.leaves-leave.result c.rounds.arrival c.relax.new.arrival size first c.leaves-leave.ensures c.relax.ensures (was.are sets size first);
    })

pub rounds-smaller : goal.rounds-smaller
rounds-smaller g c =
    let rt = c.ranges.to in
    let was = c.rounds.invariant in
    simp to_z-of_z (total_falls (least c.args.to c.args.departure.now) c.rounds.arrival c.relax.new.arrival (c.relax.ensures.0 ∙ sym was.size) (λ d h. let lt : d < 16 = (let l = was.size in omega arith) in (late g c d lt, (c.relax.ensures.1 d lt).0)) (λ e. let t = c.if-same_tenths.ensures.1 e in absurd (cc)))

pub returns-then-same_tenths : goal.returns-then-same_tenths
returns-then-same_tenths g c =
    let m = g.M.Machine.rules c.args.machine.now in
    let laws = g.met.M.Machine.laws c.args.machine.now in
    let rf = c.ranges.from in let rt = c.ranges.to in
    let was = simp to_z-of_z at c.rounds.invariant in
    λ sets size first. let are = was.are sets size first in (are, fixed_gap m laws sets c.args.from c.args.to c.requires.some c.args.departure.now c.leaves-leave.result c.rounds.arrival c.relax.new.arrival size first c.leaves-leave.ensures c.relax.ensures are (c.if-same_tenths.ensures.0 refl))
