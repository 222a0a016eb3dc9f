use Rattle.std.proofs.Common.{◌∙◌, ◌≤◌, length, sym, arith}
use Rattle.std.proofs.lemmas.Result.{err_from_is_err_and}
use Rattle.ring_config.proofs.WalkLaws.{next_entry, entry_refused, entries_over, few_entries}
use Rattle.ring_config.proofs.format.walk.read_entries.Goals as goal

pub returns-in_err-item : goal.returns-in_err-item
returns-in_err-item g c =
    let p = err_from_is_err_and c.from_residual.result c.from_residual.ensures.1 in
    let rules = g.R.TableRules.rules c.args.rules.now in
    let f = rw (c.as_slice.ensures.value, c.table-table.ensures) at c.in_err-item.ensures in
    let few : length c.args.tables.now ≤ rules.limit = rw c.limit-limit.ensures at c.loop-members.invariant.few in
    rw (p.1, p.2, few_entries rules c.args.tables.now few)
    (entry_refused rules c.loop-members.index c.loop-members.members-index c.loop-members.items.items c.args.tables.now c.members-item.result c.in_err-item.field-0.0 _ c.loop-members-test.true c.members-item.is f c.loop-members.invariant.left)

pub loop-members-preserved : goal.loop-members-preserved
loop-members-preserved g c =
    let rules = g.R.TableRules.rules c.args.rules.now in
    let read = rw (c.as_slice.ensures.value, c.table-table.ensures) at c.in_ok-item.ensures in
    record {
      count = omega arith;
      few = c.loop-members.invariant.few;
      left = rw c.in_ok-push.ensures.items (sym (next_entry rules c.loop-members.index c.loop-members.members-index c.loop-members.items.items c.args.tables.now c.members-item.result c.in_ok-item.item c.loop-members-test.true c.members-item.is read) ∙ c.loop-members.invariant.left);
    }

pub returns : goal.returns
returns g c =
    let rules = g.R.TableRules.rules c.args.rules.now in
    let few : length c.args.tables.now ≤ rules.limit = rw c.limit-limit.ensures at c.loop-members.invariant.few in
    few_entries rules c.args.tables.now few ∙ sym c.loop-members.invariant.left
    ∙ entries_over rules c.loop-members.index c.loop-members.members-index c.loop-members.items.items c.args.tables.now c.loop-members-test.false
