-- What is noted of the rows that are kept.
use Rattle.std.specs.Prelude.{List, Option}
use Rattle.std.specs.BTreeMap.{get}
use Rattle.sig_base.specs.declared.values.Row.{Row}
use Rattle.event_codes.specs.declared.channels.Group.{Group}
use Rattle.row_reader.specs.declared.lasts.Lasts.{Lasts}
use Rattle.row_reader.specs.declared.noted.Noted.{Noted}
use Rattle.row_reader.specs.Last.{Knows, looked_up, pair_cmp}

-- the last row of a group
abbrev pub look_up : Lasts → Group → Option Row
look_up lasts group = looked_up lasts.of.items (get pair_cmp lasts.alone) group

-- what is noted tells of these rows
abbrev pub IsNoted : Noted → List Row → Type 0
IsNoted noted rows = Knows noted.until (look_up noted.lasts) rows
