-- One hour of a store that is opened: what is held of it, and how that cuts its tenths.
use Rattle.std.specs.Prelude.{◌≡◌, ℕ, ◌<◌, Option, List}
use Rattle.span_set.specs.declared.set.Span.{Span}
use Rattle.sig_base.specs.declared.values.Row.{Row}
use Rattle.sig_base.specs.HourRows.{AreRowsOf}
use Rattle.gap_map.specs.declared.stretch.Stretch.{Stretch}
use Rattle.hour_store.specs.Store.{Store}
use Rattle.signal_log.specs.Points.{HasHour, rows_or_none}
use Rattle.signal_log.specs.Over.{IsCutOf}

-- the hour, its rows where it is held, the blanked ranges, and its stretches
pub record Opened : Type 0 where
  pub hour : ℕ
  pub rows : Option (List Row)
  pub blanks : List Span
  pub stretches : List Stretch

-- the rows are of the hour, and the stretches are the one cut of it
pub record IsOpened (o : Opened) : Type 0 where
  pub in_range : o.hour < 744
  pub are_rows : AreRowsOf o.hour (rows_or_none o.rows)
  pub cut : IsCutOf o.hour o.rows o.blanks o.stretches
  pub one : (ss : List Stretch) → IsCutOf o.hour o.rows o.blanks ss → ss ≡ o.stretches

-- of the store this is held of the hour, and this is what it says of its tenths
abbrev pub HasPlace : Store → Opened → Type 0
HasPlace s o = HasHour s o.hour o.rows o.blanks
