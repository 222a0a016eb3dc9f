-- The tables of an array, as the code gathers them.
use Rattle.std.proofs.Common.{◌≡◌, ℕ, ◌+◌, ◌<◌, ◌≤◌, List, [], ◌∷◌, ◌++◌, length, get_or, drop, Some, None, refl, ap, sym, ◌∙◌}
use Rattle.toml.specs.declared.value.Value.{Value}
use Rattle.toml.specs.View.{view, items_view}
use Rattle.toml.specs.Data.{Data, string, integer, float, boolean, datetime, array, table, Items, item, Members, as_table}
use Rattle.toml.proofs.Views.{items_view-drop}
use Rattle.std.proofs.lemmas.List.{drop_all}
use Rattle.std.proofs.lemmas.Option.{same_Some}
use Rattle.ring_config.specs.Values.{tables_from}

table_is : (d : Data) (ms : Members) → Some ms ≡ as_table d → d ≡ table ms
table_is (table ns) ms e = ap table (sym (same_Some ms ns e))
table_is (string s) ms e = absurd cc
table_is (integer z) ms e = absurd cc
table_is (float x) ms e = absurd cc
table_is (boolean b) ms e = absurd cc
table_is (datetime t) ms e = absurd cc
table_is (array ds) ms e = absurd cc

pub next_table : (found : List Members) (items : List Value) (i : ℕ) (v : Value) (ms : Members) → i < length items → v ≡ get_or items i v → Some ms ≡ as_table (view v)
    → tables_from found (items_view (drop i items)) ≡ tables_from (found ++ ms ∷ []) (items_view (drop (i + 1) items))
unfolding tables_from
next_table found items i v ms lt here e =
    let d : view (get_or items i v) ≡ table ms = ap view (sym here) ∙ table_is (view v) ms e in
    rw (items_view-drop items i v lt, d) refl

refused : (found : List Members) (d : Data) (ds : Items) → None ≡ as_table d → tables_from found (item d ds) ≡ None
unfolding tables_from
refused found (table ns) ds e = absurd cc
refused found (string s) ds e = refl
refused found (integer z) ds e = refl
refused found (float x) ds e = refl
refused found (boolean b) ds e = refl
refused found (datetime t) ds e = refl
refused found (array es) ds e = refl

pub no_table : (found : List Members) (items : List Value) (i : ℕ) (v : Value) → i < length items → v ≡ get_or items i v → None ≡ as_table (view v)
    → tables_from found (items_view (drop i items)) ≡ None
no_table found items i v lt here e =
    rw (items_view-drop items i v lt) (refused found (view (get_or items i v)) (items_view (drop (i + 1) items)) (e ∙ ap (λ (w : Value). as_table (view w)) here))

pub tables_over : (found : List Members) (items : List Value) (i : ℕ) → length items ≤ i → tables_from found (items_view (drop i items)) ≡ Some found
unfolding tables_from
tables_over found items i le = rw (drop_all i items le) refl
