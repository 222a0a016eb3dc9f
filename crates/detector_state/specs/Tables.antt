-- The two tables of such channels: the switch, and the detector with a fault.
use Rattle.std.specs.Prelude.{ℕ, ◌≡◌, List, nat_eq, if◌then◌else◌, slice_index}
use Rattle.channel_tables.specs.Table.{table_rules}
use Rattle.channel_tables.specs.SwitchTables.{ped_detector_table}
use Rattle.channel_tables.specs.DetectorTable.{detector_table}
use Rattle.detector_state.specs.Free.{IsMixed, IsOrdered, Order}

abbrev pub fault_rank : ℕ → ℕ
fault_rank c = if nat_eq c 2 then 0 else if nat_eq c 0 then 1 else 2

abbrev pub fault_order : Order
fault_order = record { rank = fault_rank; on = 1; least = 2; fall = 3; rise = 1 }

abbrev pub switch_order : Order
switch_order = record { rank = λ c. c; on = 1; least = 0; fall = 0; rise = 1 }

-- with no floors both tables are of ordered channels, of which letters lead everywhere
abbrev pub TablesAreOrdered : Type 0
TablesAreOrdered = (floors : List ℕ) → ((c : ℕ) → slice_index floors c ≡ 0) → (IsOrdered (table_rules ped_detector_table floors) switch_order × IsMixed (table_rules ped_detector_table floors)) × (IsOrdered (table_rules detector_table floors) fault_order × IsMixed (table_rules detector_table floors))
