use Rattle.std.proofs.Common.{◌≡◌, ◌∙◌, sym, refl, [], ◌∷◌, ◌++◌}
use Rattle.std.proofs.lemmas.List.{map_push}
use Rattle.toml.specs.View.{table_view}
use Rattle.ring_config.proofs.WalkLaws.{seen_tables}
use Rattle.ring_config.proofs.ArrayLaws.{next_table, no_table, tables_over}
use Rattle.ring_config.proofs.format.document.tables_in.Goals as goal

pub returns-in-None : goal.returns-in-None
returns-in-None c =
    rw (sym c.loop-item.invariant ∙ no_table (seen_tables c.loop-item.tables.items) c.args.items.now c.loop-item.item-index c.item-item.result c.loop-item-test.true c.item-item.is c.in-None.ensures) refl

pub loop-item-preserved : goal.loop-item-preserved
loop-item-preserved c =
    let more : seen_tables c.push.new.self.items ≡ seen_tables c.loop-item.tables.items ++ table_view c.in-Some.table.now ∷ [] = rw c.in_ok-push-in-Some.ensures.items (map_push _ c.loop-item.tables.items c.in-Some.table) in
    rw more (sym (next_table (seen_tables c.loop-item.tables.items) c.args.items.now c.loop-item.item-index c.item-item.result (table_view c.in-Some.table.now) c.loop-item-test.true c.item-item.is c.in-Some.ensures) ∙ c.loop-item.invariant)

pub returns : goal.returns
returns c = rw (sym c.loop-item.invariant ∙ tables_over (seen_tables c.loop-item.tables.items) c.args.items.now c.loop-item.item-index c.loop-item-test.false) refl
