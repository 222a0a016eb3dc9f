use Rattle.std.proofs.Common.{rules, ◌≡◌, ◌∙◌, ◌-◌, sym, arith, true, false, length, get_or}
use Rattle.sig_base.specs.declared.values.Row.{Row}
use Rattle.event_codes.specs.Channels.{same_group}
use Rattle.row_reader.specs.Repeats.{group_of_row}
use Rattle.hour_pack.proofs.RepeatFacts.{repeat-here, repeat-before, repeat-none, event-param, event-code}
use Rattle.hour_pack.proofs.OrderFacts.{no_row, rise-cut}
use Rattle.hour_pack.proofs.repeats.is_repeat.Goals as goal

pub returns-then-last-row : goal.returns-then-last-row
returns-then-last-row c =
    sym (c.loop-rest.invariant.same
    ∙ repeat-none c.loop-rest.rest.now c.args.row no_row (omega arith) c.loop-rest.invariant.rise c.if-last-row.true)

pub returns-then-last-row-2 : goal.returns-then-last-row-2
returns-then-last-row-2 c =
    let rest = c.loop-rest.rest.now in
    let last : Row = get_or rest (length rest - 1) no_row in
    let group : same_group (group_of_row c.args.row) (group_of_row last) ≡ true = sym c.same_group.ensures ∙ c.if-same_group.true in
    sym (c.loop-rest.invariant.same
    ∙ repeat-here rest c.args.row no_row (omega arith) c.if-last-row.false group
    ∙ event-param last c.args.row c.if-last-row-2.true)

pub returns-else-last-row-2 : goal.returns-else-last-row-2
returns-else-last-row-2 c =
    let rest = c.loop-rest.rest.now in
    let last : Row = get_or rest (length rest - 1) no_row in
    let group : same_group (group_of_row c.args.row) (group_of_row last) ≡ true = sym c.same_group.ensures ∙ c.if-same_group.true in
    sym (c.loop-rest.invariant.same
    ∙ repeat-here rest c.args.row no_row (omega arith) c.if-last-row.false group
    ∙ event-code last c.args.row c.if-last-row-2.false)

pub loop-rest-preserved : goal.loop-rest-preserved
loop-rest-preserved c =
    let rest = c.loop-rest.rest.now in
    let last : Row = get_or rest (length rest - 1) no_row in
    let group : same_group (group_of_row c.args.row) (group_of_row last) ≡ false = sym c.same_group.ensures ∙ c.if-same_group.false in
    record {
      same = c.loop-rest.invariant.same ∙ repeat-before rest c.args.row no_row (omega arith) group;
      rise = rise-cut _ _ rest (length rest - 1) c.loop-rest.invariant.rise;
      few = search rules;
    }
