use Rattle.std.proofs.Common.{◌≡◌, ◌∙◌, ◌-◌, sym, arith, true, false, get_or}
use Rattle.event_codes.specs.Channels.{same_group}
use Rattle.row_reader.specs.Repeats.{group_of_row}
use Rattle.row_reader.specs.Last.{no_row}
use Rattle.row_reader.proofs.LookBackFacts.{repeat-here, repeat-before, repeat-none, rise-take}
use Rattle.row_reader.proofs.look_back.ends_group.Goals as goal

pub returns-then-last-row : goal.returns-then-last-row
returns-then-last-row c =
    let kept = c.args.kept.now in
    let left = c.loop-left.left in
    let inv = c.loop-left.invariant in
    sym (inv.same ∙ repeat-none kept c.args.row no_row left (omega arith) inv.within (rise-take _ _ kept left c.requires) c.if-last-row.true)

pub returns-then-same : goal.returns-then-same
returns-then-same c =
    let kept = c.args.kept.now in
    let left = c.loop-left.left in
    let inv = c.loop-left.invariant in
    let group : same_group (group_of_row c.args.row) (group_of_row (get_or kept (left - 1) no_row)) ≡ true =
    rw (sym c.group_of_row-group.ensures, sym c.group_of_row.ensures) (sym c.same.ensures ∙ c.if-same.true) in
    c.same_event.ensures ∙ sym (inv.same ∙ repeat-here kept c.args.row no_row left (omega arith) inv.within c.if-last-row.false group)

pub loop-left-preserved : goal.loop-left-preserved
loop-left-preserved c =
    let kept = c.args.kept.now in
    let left = c.loop-left.left in
    let inv = c.loop-left.invariant in
    let group : same_group (group_of_row c.args.row) (group_of_row (get_or kept (left - 1) no_row)) ≡ false =
    rw (sym c.group_of_row-group.ensures, sym c.group_of_row.ensures) (sym c.same.ensures ∙ c.if-same.false) in
    record {
      same = inv.same ∙ repeat-before kept c.args.row no_row left (omega arith) inv.within group;
      within = omega (arith, inv.within);
    }
