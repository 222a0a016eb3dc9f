use Rattle.std.proofs.Common.{rules, List, subst}
use Rattle.std.proofs.lemmas.List.Sorted.{answers_always, IsNonDecreasingBy-from_sort}
use Rattle.arrival_measures.specs.declared.points.Point.{Point}
use Rattle.arrival_measures.specs.Points.{IsByTenth}
use Rattle.arrival_measures.proofs.Sorting.{sorted_is}
use Rattle.arrival_measures.proofs.points.sorted.Goals as goal

pub returns : goal.returns
returns c =
    let key = λ (r : Point). r.offset in
    let new = c.sort_by_key.new.self.items in
    subst (λ (zs : List Point). IsByTenth zs new) c.in_ok-all.ensures
    (sorted_is c.in_ok-all.all.items new
    (IsNonDecreasingBy-from_sort key _ (c.in_ok-sort_by_key.ensures.sorted key (answers_always _ _ _ (λ f a r g h. search rules))))
    (c.sort_by_key.ensures.stable key (answers_always _ _ _ (λ f a r g h. search rules))))
