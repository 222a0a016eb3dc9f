-- The view of an hour under a configuration.
use Rattle.std.specs.Prelude.{◌≡◌, List}
use Rattle.sig_base.specs.declared.values.Row.{Row}
use Rattle.gap_map.specs.declared.stretch.Stretch.{Stretch}
use Rattle.board.specs.Logs.{HourLog}
use Rattle.board.specs.Places.{IsViewOf}
use Rattle.ring_config.specs.Settings.{Settings}

-- the view is one of this hour, with the channels of the configuration
pub record IsSeen (c : Settings) (view : HourLog) (rows : List Row) (ss : List Stretch) (log : HourLog) : Type 0 where
  pub is_view : IsViewOf log view
  pub same_specs : log.specs ≡ c.specs
  pub same_rows : log.rows ≡ rows
  pub same_stretches : log.stretches ≡ ss
