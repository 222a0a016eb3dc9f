use Rattle.std.proofs.Common.{◌≡◌, [], map, drop}
use Rattle.toml.specs.View.{table_view, items_view}
use Rattle.ring_config.specs.Values.{tables_from}
use Rattle.ring_config.proofs.format.document.tables_in.Given as goal

abbrev pub invariant-loop-item : goal.invariant-loop-item
invariant-loop-item l = tables_from (map (λ t. table_view t.now) l.tables.items) (items_view (drop l.item-index l.items)) ≡ tables_from [] (items_view l.items)
