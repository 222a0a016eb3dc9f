-- The tables fit, as a computation shows.
use Rattle.std.proofs.Common.{refl, ℕ, List, [], arith}
use Rattle.colour_machine.specs.Rules.{IsMachine}
use Rattle.channel_tables.specs.Table.{AreFloors, table_rules}
use Rattle.channel_tables.specs.Laws.{table_laws}
use Rattle.channel_tables.specs.PhaseTable.{phase_table}
use Rattle.channel_tables.specs.PedTable.{ped_table}
use Rattle.channel_tables.specs.OverlapTable.{overlap_table}
use Rattle.channel_tables.specs.SwitchTables.{ped_detector_table}
use Rattle.channel_tables.specs.DetectorTable.{detector_table}
use Rattle.channel_tables.specs.PreemptTable.{preempt_table}
use Rattle.channel_tables.specs.CoordinationTable.{coordination_table}

no_floors : AreFloors []
no_floors c = omega arith

pub phase_laws : (floors : List ℕ) → AreFloors floors → IsMachine (table_rules phase_table floors)
phase_laws floors low = table_laws phase_table floors refl low

pub ped_laws : (floors : List ℕ) → AreFloors floors → IsMachine (table_rules ped_table floors)
ped_laws floors low = table_laws ped_table floors refl low

pub overlap_laws : (floors : List ℕ) → AreFloors floors → IsMachine (table_rules overlap_table floors)
overlap_laws floors low = table_laws overlap_table floors refl low

pub switch_laws : IsMachine (table_rules ped_detector_table [])
switch_laws = table_laws ped_detector_table [] refl no_floors

pub detector_laws : IsMachine (table_rules detector_table [])
detector_laws = table_laws detector_table [] refl no_floors

pub preempt_laws : (floors : List ℕ) → AreFloors floors → IsMachine (table_rules preempt_table floors)
preempt_laws floors low = table_laws preempt_table floors refl low

pub coordination_laws : IsMachine (table_rules coordination_table [])
coordination_laws = table_laws coordination_table [] refl no_floors
