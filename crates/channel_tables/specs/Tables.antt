-- Which kind of channel has which table, and the names of its colours.
use Rattle.std.specs.Prelude.{ℕ, ◌≡◌, List, Some, slice_get}
use Rattle.event_codes.specs.declared.channels.Kind.{Kind}
use Rattle.event_codes.specs.declared.channels.Kind.TheVariants.{Phase, Ped, Overlap, Detector, PedDetector, PreemptInput, PreemptService, Coordination}
use Rattle.channel_tables.specs.Table.{Table}
use Rattle.channel_tables.specs.PhaseTable.{phase_table}
use Rattle.channel_tables.specs.PedTable.{ped_table}
use Rattle.channel_tables.specs.OverlapTable.{overlap_table}
use Rattle.channel_tables.specs.SwitchTables.{switch_table}
use Rattle.channel_tables.specs.DetectorTable.{detector_table}
use Rattle.channel_tables.specs.PreemptTable.{preempt_table}
use Rattle.channel_tables.specs.CoordinationTable.{coordination_table}

-- the table of the channels of a kind; codes 89 and 90 turn a pedestrian detector off and on, 104 and 102 a preempt's call input
abbrev pub table_of : Kind → Table
table_of Phase = phase_table
table_of Ped = ped_table
table_of Overlap = overlap_table
table_of Detector = detector_table
table_of PedDetector = switch_table 89 90
table_of PreemptInput = switch_table 104 102
table_of PreemptService = preempt_table
table_of Coordination = coordination_table

-- the colour of a channel of this kind has this name
abbrev pub HasName : Kind → ℕ → List ℕ → Type 0
HasName kind colour name = slice_get (table_of kind).names colour ≡ Some name
