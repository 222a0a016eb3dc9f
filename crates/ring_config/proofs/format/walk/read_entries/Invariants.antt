use Rattle.std.proofs.Common.{◌≡◌, [], map, drop, ◌≤◌, length}
use Rattle.toml.specs.View.{table_view}
use Rattle.ring_config.specs.Walk.{entries_from}
use Rattle.ring_config.proofs.format.walk.read_entries.Given as goal

abbrev pub invariant-loop-members : goal.invariant-loop-members
invariant-loop-members g l =
    let rules = g.R.TableRules.rules l.rules in
    record {
      count : l.index ≡ l.members-index;
      few : length l.tables ≤ l.limit;
      left : entries_from rules l.index l.items.items (map (λ t. table_view t.now) (drop l.members-index l.tables)) ≡ entries_from rules 0 [] (map (λ t. table_view t.now) l.tables);
    }
