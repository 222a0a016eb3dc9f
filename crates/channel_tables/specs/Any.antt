-- What any of the machines is.
use Rattle.std.specs.Prelude.{[]}
use Rattle.colour_machine.specs.Rules.{Rules}
use Rattle.channel_tables.specs.declared.any.AnyMachine.{AnyMachine}
use Rattle.channel_tables.specs.declared.any.AnyMachine.TheVariants.{Phase, Ped, Overlap, Switch, Detector, Preempt, Coord}
use Rattle.channel_tables.specs.Table.{table_rules}
use Rattle.channel_tables.specs.PhaseTable.{phase_table}
use Rattle.channel_tables.specs.PedTable.{ped_table}
use Rattle.channel_tables.specs.OverlapTable.{overlap_table}
use Rattle.channel_tables.specs.SwitchTables.{ped_detector_table}
use Rattle.channel_tables.specs.DetectorTable.{detector_table}
use Rattle.channel_tables.specs.PreemptTable.{preempt_table}
use Rattle.channel_tables.specs.CoordinationTable.{coordination_table}

-- the table of the machine that it is, with that machine's floors
abbrev pub any_rules : AnyMachine → Rules
any_rules (Phase m) = table_rules phase_table m.floors
any_rules (Ped m) = table_rules ped_table m.floors
any_rules (Overlap m) = table_rules overlap_table m.floors
any_rules (Switch m) = table_rules ped_detector_table []
any_rules (Detector m) = table_rules detector_table []
any_rules (Preempt m) = table_rules preempt_table m.floors
any_rules (Coord m) = table_rules coordination_table []
