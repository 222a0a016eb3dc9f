use Rattle.std.proofs.Common.{arith}
use Rattle.std.proofs.lemmas.Int.{ints, to_z-of_z}
use Rattle.sig_base.proofs.Common.{ok_more}
use Rattle.gap_ways.proofs.Sources.{early_source, cut_held, cut_in_gap}
use Rattle.gap_ways.proofs.gap.gap_source.Goals as goal

pub returns-then-target-from-clause-held : goal.returns-then-target-from-clause-held
returns-then-target-from-clause-held g c =
    let rf = c.ranges.from in
    early_source (g.M.Machine.rules c.args.machine.now) c.args.past.now c.args.from c.args.to c.args.target c.requires.reached (let lt = c.if-target-from.true in omega (arith, ints))

pub back-requires-clause-within : goal.back-requires-clause-within
back-requires-clause-within g c =
    let m = g.M.Machine.rules c.args.machine.now in
    let laws = g.met.M.Machine.laws c.args.machine.now in
    let rf = c.ranges.from in let rt = c.ranges.to in
    let early = simp to_z-of_z at c.in_ok-early.ensures.states in
    let rounds = simp to_z-of_z at c.in_ok-rounds.ensures.rounds in
    let late = c.if-target-from.false in
    simp to_z-of_z ((cut_in_gap c.args.past.now c.in_ok-early.early c.args.from early m c.args.to _ _ c.args.target laws c.requires.colours c.requires.reached (omega (arith, ints)) rounds).0)

pub back-requires-clause-rounds : goal.back-requires-clause-rounds
back-requires-clause-rounds g c =
    let m = g.M.Machine.rules c.args.machine.now in
    let laws = g.met.M.Machine.laws c.args.machine.now in
    let rf = c.ranges.from in let rt = c.ranges.to in
    let early = simp to_z-of_z at c.in_ok-early.ensures.states in
    let rounds = simp to_z-of_z at c.in_ok-rounds.ensures.rounds in
    let late = c.if-target-from.false in
    simp to_z-of_z ((cut_in_gap c.args.past.now c.in_ok-early.early c.args.from early m c.args.to _ _ c.args.target laws c.requires.colours c.requires.reached (omega (arith, ints)) rounds).1)

pub returns-clause-held : goal.returns-clause-held
returns-clause-held g c =
    let rf = c.ranges.from in
    let early = simp to_z-of_z at c.in_ok-early.ensures.states in
    ok_more _ _ c.back.result (λ s h. cut_held c.args.past.now c.in_ok-early.early c.args.from early s h) c.back.ensures.held

pub returns-clause-way : goal.returns-clause-way
returns-clause-way g c = let rf = c.ranges.from in let rt = c.ranges.to in simp to_z-of_z at c.back.ensures.way
