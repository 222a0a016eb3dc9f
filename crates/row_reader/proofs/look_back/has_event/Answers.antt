use Rattle.std.proofs.Common.{arith, sym, ◌∙◌}
use Rattle.row_reader.specs.Last.{no_row}
use Rattle.row_reader.proofs.LookBackFacts.{no_repeat-before, repeat-none, rise-take}
use Rattle.row_reader.proofs.look_back.has_event.Goals as goal

pub returns-then-last-row : goal.returns-then-last-row
returns-then-last-row c = λ e.
    let kept = c.args.kept.now in
    let left = c.loop-left.left in
    let inv = c.loop-left.invariant in
    inv.none (repeat-none kept c.args.row no_row left (omega arith) inv.within (rise-take _ _ kept left c.requires) c.if-last-row.true)

pub loop-left-preserved : goal.loop-left-preserved
loop-left-preserved c =
    let inv = c.loop-left.invariant in
    record {
      none = λ e. inv.none (no_repeat-before c.args.kept.now c.args.row no_row c.loop-left.left (omega arith) inv.within (sym c.same_event.ensures ∙ c.if-same_event.false) e);
      within = omega (arith, inv.within);
    }
