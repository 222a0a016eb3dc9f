-- What the readers of the code stand for.
use Rattle.std.specs.Prelude.{map, string_bytes}
use Rattle.toml.specs.View.{table_view}
use Rattle.ring_config.specs.declared.format.reading.Entry.{Entry}
use Rattle.ring_config.specs.declared.format.document.Head.{Head}
use Rattle.ring_config.specs.declared.format.document.LayoutTables.{LayoutTables}
use Rattle.ring_config.specs.declared.format.document.DetailTables.{DetailTables}
use Rattle.ring_config.specs.declared.format.layout.Layout as code_layout
use Rattle.ring_config.specs.declared.format.details.Details as code_details
use Rattle.ring_config.specs.declared.format.parts.Parts as code_parts
use Rattle.ring_config.specs.Reading.{EntryData}
use Rattle.ring_config.specs.Settings.{Layout, Details, Parts}
use Rattle.ring_config.specs.Tables.{Top, LayoutArrays, DetailArrays}

abbrev pub entry_seen : Entry → EntryData
entry_seen e = record { table = e.table; index = e.index; members = table_view e.members.now }

abbrev pub head_seen : Head → Top
head_seen h = record { signal = string_bytes h.signal; window = h.window; coordination = h.coordination }

abbrev pub layout_tables_seen : LayoutTables → LayoutArrays
layout_tables_seen t = record {
  phase = map (λ m. table_view m.now) t.phase.items;
  ped = map (λ m. table_view m.now) t.ped.items;
  overlap = map (λ m. table_view m.now) t.overlap.items;
  preempt = map (λ m. table_view m.now) t.preempt.items;
}

abbrev pub detail_tables_seen : DetailTables → DetailArrays
detail_tables_seen t = record {
  conflict = map (λ m. table_view m.now) t.conflict.items;
  allow = map (λ m. table_view m.now) t.allow.items;
  floor = map (λ m. table_view m.now) t.floor.items;
  interval = map (λ m. table_view m.now) t.interval.items;
  approach = map (λ m. table_view m.now) t.approach.items;
}

abbrev pub layout_seen : code_layout.Layout → Layout
layout_seen l = record { phases = l.phases.items; peds = l.peds.items; overlaps = l.overlaps.items; preempts = l.preempts.items }

abbrev pub details_seen : code_details.Details → Details
details_seen d = record { conflicts = d.conflicts.items; allows = d.allows.items; floors = d.floors.items; intervals = d.intervals.items; approaches = d.approaches.items }

abbrev pub parts_seen : code_parts.Parts → Parts
parts_seen p = record { top = head_seen p.head; layout = layout_seen p.layout; details = details_seen p.details }
