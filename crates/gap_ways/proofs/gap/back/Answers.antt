use Rattle.std.proofs.Common.{arith, rules, w64, refl, ◌+◌, reverse}
use Rattle.std.specs.Prelude.{FitsSigned}
use Rattle.std.proofs.lemmas.Int.{ints, to_z-of_z}
use Rattle.reach.specs.Sets.{at}
use Rattle.gap_ways.specs.declared.states.Entered.{Entered}
use Rattle.gap_ways.proofs.Sources.{first_round, skip_round, round_bounds, some_edge, edge_rounds, edge_left, edge_step, added_more, added_none, has_some, one_less, fill}
use Rattle.gap_ways.proofs.gap.back.Goals as goal

pub back-init : goal.back-init
back-init g c =
    let m = g.M.Machine.rules c.args.machine.now in
    let rf = c.ranges.from in let rt = c.ranges.to in
    record {
      within = simp to_z-of_z c.requires.within;
      rounds = simp to_z-of_z c.requires.rounds;
      way = (0, (let few = c.requires.few in omega arith), added_none m c.args.target.entry _ 0 c.args.fills.now.items c.args.target);
    }

pub leaves-leave-requires : goal.leaves-leave-requires
leaves-leave-requires g c =
    let m = g.M.Machine.rules c.args.machine.now in
    let rf = c.ranges.from in let rt = c.ranges.to in
    let was = simp to_z-of_z at c.back.invariant.rounds in
    let r = first_round m c.args.from c.args.to c.args.rounds.departure c.in-Some.table c.back.tables.items c.pop.new.self.items c.back.here c.in-Some.ensures.items was in
    λ d lt. let w = (round_bounds m c.args.from c.args.to c.args.rounds.departure c.in-Some.table (reverse c.pop.new.self.items) c.back.here r d lt).1 in let h = c.requires.high in omega (arith, ints)

pub unreachable-requires-in_default-edge_to : goal.unreachable-requires-in_default-edge_to
unreachable-requires-in_default-edge_to g c =
    let m = g.M.Machine.rules c.args.machine.now in
    let laws = g.met.M.Machine.laws c.args.machine.now in
    let rf = c.ranges.from in let rt = c.ranges.to in
    let few = laws.few_colours in
    let in_gap = c.back.invariant.within in
    let cl = in_gap.colour in
    let was = simp to_z-of_z at c.back.invariant.rounds in
    let r = first_round m c.args.from c.args.to c.args.rounds.departure c.in-Some.table c.back.tables.items c.pop.new.self.items c.back.here c.in-Some.ensures.items was in
    let ft : FitsSigned w64 (at c.in-Some.table c.back.here.colour) = search rules in
    let fe : FitsSigned w64 c.back.here.entry = search rules in
    let late = simp to_z-of_z at c.if-here-table.true in
    some_edge m c.args.from c.args.to c.args.rounds.departure c.in-Some.table c.leaves-leave.result (reverse c.pop.new.self.items) c.back.here (omega arith) r (omega (arith, ints)) c.leaves-leave.ensures (simp to_z-of_z at c.in_default-edge_to.ensures)

pub bounds-departure-left : goal.bounds-departure-left
bounds-departure-left g c = let laws = g.met.M.Machine.laws c.args.machine.now in let few = laws.few_colours in let e = c.in-Some-edge_to.ensures.colour in omega arith

pub bounds-table-left : goal.bounds-table-left
bounds-table-left g c = let laws = g.met.M.Machine.laws c.args.machine.now in let few = laws.few_colours in let e = c.in-Some-edge_to.ensures.colour in omega arith

pub back-preserved : goal.back-preserved
back-preserved g c =
    let m = g.M.Machine.rules c.args.machine.now in
    let rf = c.ranges.from in let rt = c.ranges.to in
    let was = simp to_z-of_z at c.back.invariant in
    let r = first_round m c.args.from c.args.to c.args.rounds.departure c.in-Some.table c.back.tables.items c.pop.new.self.items c.back.here c.in-Some.ensures.items was.rounds in
    let ft : FitsSigned w64 (at c.in-Some.table c.back.here.colour) = search rules in
    let fe : FitsSigned w64 c.back.here.entry = search rules in
    let low = simp to_z-of_z at c.if-here-table.false in
    let less = one_less c.back.tables.items c.pop.new.self.items c.in-Some.table was.way.0 c.in-Some.ensures.items was.way.1 in
    simp to_z-of_z (record {
      within = was.within;
      rounds = skip_round m c.args.from c.args.to c.args.rounds.departure c.in-Some.table (reverse c.pop.new.self.items) c.back.here (omega (arith, ints)) r;
      way = (was.way.0, omega arith, was.way.2);
    })

pub old_entry-requires-clause-low : goal.old_entry-requires-clause-low
old_entry-requires-clause-low g c =
    let rf = c.ranges.from in let rt = c.ranges.to in
    let fe : FitsSigned w64 c.back.here.entry = search rules in
    let w = simp to_z-of_z at c.back.invariant.within in
    let late = w.late in let low = c.requires.low in
    omega (arith, ints)

pub old_entry-requires-clause-high : goal.old_entry-requires-clause-high
old_entry-requires-clause-high g c =
    let rf = c.ranges.from in let rt = c.ranges.to in
    let fe : FitsSigned w64 c.back.here.entry = search rules in
    let w = simp to_z-of_z at c.back.invariant.within in
    let early = w.early in let high = c.requires.high in
    omega (arith, ints)

pub old_entry-requires-clause-some : goal.old_entry-requires-clause-some
old_entry-requires-clause-some g c =
    let rf = c.ranges.from in let rt = c.ranges.to in
    let cl = c.in-Some-edge_to.ensures.colour in
    let laws = g.met.M.Machine.laws c.args.machine.now in
    let few = laws.few_colours in
    let fd : FitsSigned w64 (at c.args.rounds.departure c.in-Some-edge_to.edge.colour) = search rules in
    let fe : FitsSigned w64 c.back.here.entry = search rules in
    let low = simp to_z-of_z at c.if-departure-left.true in
    let w = simp to_z-of_z at c.back.invariant.within in
    let early = w.early in
    simp to_z-of_z (has_some _ _ c.args.from c.args.to _ c.back.here.entry (c.requires.first c.in-Some-edge_to.edge.colour cl) (omega (arith, ints)) (omega (arith, ints)))

pub returns-then-departure-left-clause-way : goal.returns-then-departure-left-clause-way
returns-then-departure-left-clause-way g c =
    let m = g.M.Machine.rules c.args.machine.now in
    let laws = g.met.M.Machine.laws c.args.machine.now in
    let few = laws.few_colours in
    let rf = c.ranges.from in let rt = c.ranges.to in
    let fd : FitsSigned w64 (at c.args.rounds.departure c.in-Some-edge_to.edge.colour) = search rules in
    let fe : FitsSigned w64 c.back.here.entry = search rules in
    let fo : FitsSigned w64 c.old_entry.result = search rules in
    let was = simp to_z-of_z at c.back.invariant in
    let within = was.within in
    let wl = within.late in let we = within.early in
    let less = one_less c.back.tables.items c.pop.new.self.items c.in-Some.table was.way.0 c.in-Some.ensures.items was.way.1 in
    let n = simp to_z-of_z at c.in_ok-push.ensures.items in
    let edge = simp to_z-of_z at c.in-Some-edge_to.ensures in
    let cl = edge.colour in
    let size = c.requires.colours in
    let low = simp to_z-of_z at c.if-departure-left.true in
    let ok = simp to_z-of_z at c.old_entry.ensures.old in
    let s : Entered = record { colour = c.in-Some-edge_to.edge.colour; entry = c.old_entry.result } in
    simp to_z-of_z (added_more m c.args.from c.args.to was.way.0 16 c.args.fills.now.items c.back.fills.items c.push.new.self.items (fill c.back.here.entry c.in-Some-edge_to.edge.letter) c.back.here s c.args.target wl refl we n (omega arith) (edge_step m c.leaves-leave.result c.back.here s c.in-Some-edge_to.edge c.in-Some-edge_to.edge.letter edge refl refl ok) was.way.2)

pub back-preserved-then-here-table : goal.back-preserved-then-here-table
back-preserved-then-here-table g c =
    let m = g.M.Machine.rules c.args.machine.now in
    let laws = g.met.M.Machine.laws c.args.machine.now in
    let few = laws.few_colours in
    let rf = c.ranges.from in let rt = c.ranges.to in
    let was = simp to_z-of_z at c.back.invariant in
    let within = was.within in
    let wl = within.late in let we = within.early in
    let r = first_round m c.args.from c.args.to c.args.rounds.departure c.in-Some.table c.back.tables.items c.pop.new.self.items c.back.here c.in-Some.ensures.items was.rounds in
    let less = one_less c.back.tables.items c.pop.new.self.items c.in-Some.table was.way.0 c.in-Some.ensures.items was.way.1 in
    let fd : FitsSigned w64 (at c.args.rounds.departure c.in-Some-edge_to.edge.colour) = search rules in
    let ft : FitsSigned w64 (at c.in-Some.table c.in-Some-edge_to.edge.colour) = search rules in
    let fe : FitsSigned w64 c.back.here.entry = search rules in
    let n = simp to_z-of_z at c.in_ok-push.ensures.items in
    let edge = simp to_z-of_z at c.in-Some-edge_to.ensures in
    let cl = edge.colour in
    let bound = round_bounds m c.args.from c.args.to c.args.rounds.departure c.in-Some.table (reverse c.pop.new.self.items) c.back.here r c.in-Some-edge_to.edge.colour (omega arith) in
    let bl = bound.0 in let bh = bound.1 in
    let late = simp to_z-of_z at c.if-departure-left.false in
    let s : Entered = record { colour = c.in-Some-edge_to.edge.colour; entry = at c.in-Some.table c.in-Some-edge_to.edge.colour } in
    let ok = edge_left m c.args.rounds.departure c.in-Some.table c.leaves-leave.result c.back.here c.in-Some-edge_to.edge edge (c.leaves-leave.ensures c.in-Some-edge_to.edge.colour cl) (omega (arith, ints)) in
    simp to_z-of_z (record {
      within = record { colour = cl; late = bl; early = omega (arith, ints) };
      rounds = edge_rounds m c.args.from c.args.to c.args.rounds.departure c.in-Some.table (reverse c.pop.new.self.items) c.back.here s refl r;
      way = (was.way.0 + 1, less, added_more m (at c.in-Some.table c.in-Some-edge_to.edge.colour) c.args.to was.way.0 (was.way.0 + 1) c.args.fills.now.items c.back.fills.items c.push.new.self.items (fill c.back.here.entry c.in-Some-edge_to.edge.letter) c.back.here s c.args.target (omega (arith, ints)) refl we n (omega arith) (edge_step m c.leaves-leave.result c.back.here s c.in-Some-edge_to.edge c.in-Some-edge_to.edge.letter edge refl refl ok) was.way.2);
    })
