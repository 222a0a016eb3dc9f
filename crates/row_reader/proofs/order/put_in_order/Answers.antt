use Rattle.std.proofs.Common.{rules, ◌≡◌, ◌*◌}
use Rattle.std.proofs.lemmas.List.Sorted.{answers_always, IsNonDecreasingBy-from_sort}
use Rattle.sig_base.specs.declared.values.Row.{Row}
use Rattle.row_reader.specs.Order.{in_row_order}
use Rattle.row_reader.proofs.OrderFacts.{in-order, rows_from-at, rows_from-rise_in}
use Rattle.row_reader.proofs.order.put_in_order.Goals as goal

pub returns-clause-order : goal.returns-clause-order
returns-clause-order c =
    let key = λ (r : Row). r.at in
    in-order 36000 (36000 * c.args.hour) c.args.rows.now.items c.sort_by_key.new.self.items c.requires
    (IsNonDecreasingBy-from_sort key _ (c.in_ok-sort_by_key.ensures.sorted key (answers_always _ _ _ (λ f a r g h. search rules))))
    (c.sort_by_key.ensures.stable key (answers_always _ _ _ (λ f a r g h. search rules)))

pub returns-clause-rise : goal.returns-clause-rise
returns-clause-rise c =
    let e : c.sort_by_key.new.self.items ≡ in_row_order c.args.hour c.args.rows.now.items = returns-clause-order c in
    rw e (rows_from-rise_in 36000 (36000 * c.args.hour) c.args.rows.now.items c.requires)

pub returns-clause-tenths : goal.returns-clause-tenths
returns-clause-tenths c = λ t.
    let e : c.sort_by_key.new.self.items ≡ in_row_order c.args.hour c.args.rows.now.items = returns-clause-order c in
    rw e (rows_from-at 36000 (36000 * c.args.hour) t c.args.rows.now.items c.requires)
