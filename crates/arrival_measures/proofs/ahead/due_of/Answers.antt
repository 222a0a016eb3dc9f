use Rattle.std.proofs.Common.{◌≡◌, ◌∙◌, true, ◌||◌, List, [], ◌∷◌, ltb, ap, refl, sym, rules}
use Rattle.std.specs.List.{filter}
use Rattle.std.proofs.lemmas.List.Sorted.{IsPartitionPoint-from_clause, IsPartitionedBy-ltb}
use Rattle.sig_base.specs.declared.values.Row.{Row}
use Rattle.arrival_measures.proofs.Filters.{cut_at}
use Rattle.arrival_measures.proofs.Between.{never_falls}
use Rattle.arrival_measures.proofs.ahead.due_of.Goals as goal

every : (rows : List Row) → rows ≡ filter (λ x. true) rows
every [] = refl
every (x ∷ xs) = ap (λ zs. x ∷ zs) (every xs)

pub returns-then-last : goal.returns-then-last
returns-then-last c = λ a b or. every c.args.rows.now ∙ ap (λ v. filter (λ (x : Row). v || ltb x.at c.args.end) c.args.rows.now) (sym c.if-last.true)

pub returns : goal.returns
returns c = λ a b or.
    let rows = c.args.rows.now in
    let first = cut_at (λ (x : Row). ltb x.at c.args.end) rows c.partition_point.result c.partition_point.ensures.bound (IsPartitionPoint-from_clause (λ (x : Row). ltb x.at c.args.end) rows c.partition_point.result c.partition_point.ensures.partitioned (IsPartitionedBy-ltb (λ (x : Row). x.at) rows c.args.end (never_falls a b rows or)) (λ x r q k. search rules)) in
    c.split_at.ensures.front ∙ first.0 ∙ ap (λ v. filter (λ (x : Row). v || ltb x.at c.args.end) rows) (sym c.if-last.false)
