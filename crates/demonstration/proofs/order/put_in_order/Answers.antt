use Rattle.std.proofs.Common.{rules, ℕ}
use Rattle.std.proofs.lemmas.List.Sorted.{answers_always}
use Rattle.sig_base.specs.declared.values.Row.{Row}
use Rattle.demonstration.proofs.OrderFacts.{in-order}
use Rattle.demonstration.proofs.order.put_in_order.Goals as goal

pub returns : goal.returns
returns c =
    let key : Row → ℕ × ℕ × ℕ = λ r. (r.at, r.code, r.param) in
    let h = c.in_ok-sort_by_key.ensures.sorted key (answers_always _ _ _ (λ f a r g h. search rules)) in
    let s = c.sort_by_key.ensures.stable key (answers_always _ _ _ (λ f a r g h. search rules)) in
    in-order c.args.rows.now.items c.sort_by_key.new.self.items h s
