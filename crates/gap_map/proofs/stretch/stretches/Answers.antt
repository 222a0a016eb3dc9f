use Rattle.std.proofs.Common.{arith, ◌+◌, ◌*◌}
use Rattle.gap_map.specs.Stretches.{IsCut, known_in}
use Rattle.gap_map.proofs.Cutting.{held_cut, all_unknown, only}
use Rattle.gap_map.proofs.stretch.stretches.Goals as goal

pub returns-then-held-clause-cut : goal.returns-then-held-clause-cut
returns-then-held-clause-cut c =
    rw (c.if-held.true, c.in_ok-cut.ensures, c.reaching.ensures, c.ranges-then-held.ensures.value) (held_cut c.args.blanked.now (36000 * c.args.hour) (36000 * c.args.hour + 36000) (omega arith) c.ranges-then-held.ensures.ordered)

pub returns-then-held-clause-only : goal.returns-then-held-clause-only
returns-then-held-clause-only c = only _ _ _ _ (returns-then-held-clause-cut c)

pub returns-clause-only : goal.returns-clause-only
returns-clause-only c =
    let cut : IsCut (known_in c.args.held c.args.blanked.now) (36000 * c.args.hour) (36000 * c.args.hour + 36000) c.push.new.self.items = rw (c.if-held.false, c.in_ok-push.ensures.items, c.new-all.ensures.items) (all_unknown c.args.blanked.now (36000 * c.args.hour) (36000 * c.args.hour + 36000) (omega arith)) in
    only _ _ _ _ cut
