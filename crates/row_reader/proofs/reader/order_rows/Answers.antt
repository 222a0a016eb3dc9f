use Rattle.std.proofs.Common.{◌≡◌, ◌*◌, refl}
use Rattle.row_reader.specs.Order.{in_row_order}
use Rattle.row_reader.proofs.OrderFacts.{in-order, rows_from-rise_in}
use Rattle.row_reader.proofs.reader.order_rows.Goals as goal

pub returns-then-rise-clause-order : goal.returns-then-rise-clause-order
returns-then-rise-clause-order c = in-order 36000 (36000 * c.args.hour) c.args.rows.now.items c.args.rows.now.items c.requires.within (c.requires.rise c.if-rise.true) (λ x. refl)

pub returns-then-rise-clause-rise : goal.returns-then-rise-clause-rise
returns-then-rise-clause-rise c =
    let e : c.args.rows.now.items ≡ in_row_order c.args.hour c.args.rows.now.items = in-order 36000 (36000 * c.args.hour) c.args.rows.now.items c.args.rows.now.items c.requires.within (c.requires.rise c.if-rise.true) (λ x. refl) in
    rw e (rows_from-rise_in 36000 (36000 * c.args.hour) c.args.rows.now.items c.requires.within)
