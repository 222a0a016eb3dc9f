use Rattle.std.proofs.Common.{refl, subst, List, Option, ℤ, negsuc, ◌^◌}
use Rattle.std.proofs.lemmas.Int.{to_z-of_z}
use Rattle.reach.specs.Last.{IsRoundIn}
use Rattle.reach.proofs.Returning.{round_sound, lasts_fall, last_is, low_holes, holes_from}
use Rattle.reach.proofs.before_holes.last_holes.Goals as goal

pub last_all-next-requires-clause-holes : goal.last_all-next-requires-clause-holes
last_all-next-requires-clause-holes g c =
    let rf = c.ranges.from in let rt = c.ranges.to in
    holes_from c.args.holes.now c.args.from c.args.to (negsuc (2 ^ 39)) c.requires.low c.requires.holes

pub rounds-preserved : goal.rounds-preserved
rounds-preserved g c =
    let m = g.M.Machine.rules c.args.machine.now in
    let rf = c.ranges.from in let rt = c.ranges.to in
    let w = simp to_z-of_z at c.rounds.invariant in
    simp to_z-of_z (round_sound m c.args.latest.now c.args.holes.now c.args.to c.args.from c.rounds.last c.last_all-next.result c.requires.holes c.last_all-next.ensures w)

pub rounds-smaller : goal.rounds-smaller
rounds-smaller g c =
    let m = g.M.Machine.rules c.args.machine.now in
    let rf = c.ranges.from in let rt = c.ranges.to in
    let w = simp to_z-of_z at c.rounds.invariant in
    simp to_z-of_z (lasts_fall m c.args.latest.now c.args.holes.now c.args.from c.args.to c.rounds.last c.last_all-next.result c.requires.some c.requires.holes c.last_all-next.ensures w (λ e. let t = c.if-same_entries.ensures.1 e in absurd (cc)))

pub returns-then-same_entries-clause-last : goal.returns-then-same_entries-clause-last
returns-then-same_entries-clause-last g c =
    let m = g.M.Machine.rules c.args.machine.now in
    let rf = c.ranges.from in let rt = c.ranges.to in
    let w = simp to_z-of_z at c.rounds.invariant in
    last_is m c.args.latest.now c.args.holes.now c.args.to c.args.from c.rounds.last c.requires.holes (subst (λ (x : List (Option ℤ)). IsRoundIn m c.args.latest.now c.args.holes.now c.rounds.last x) (c.if-same_entries.ensures.0 refl) c.last_all-next.ensures) w

pub returns-then-same_entries-clause-low : goal.returns-then-same_entries-clause-low
returns-then-same_entries-clause-low g c =
    let rf = c.ranges.from in let rt = c.ranges.to in
    let w = simp to_z-of_z at c.rounds.invariant in
    λ k. low_holes c.args.holes.now c.args.from c.args.to (negsuc (2 ^ 39)) _ c.requires.low c.requires.holes (w.2 k)

pub returns-then-same_entries-clause-none : goal.returns-then-same_entries-clause-none
returns-then-same_entries-clause-none g c = c.rounds.invariant.1
