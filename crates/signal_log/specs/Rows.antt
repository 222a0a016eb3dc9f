-- The rows of a store's hour.
use Rattle.std.specs.Prelude.{ℕ, List, length, take, slice_index_or}
use Rattle.sig_base.specs.declared.values.Row.{Row}
use Rattle.hour_store.specs.Store.{Store, rows_at}
use Rattle.board.specs.History.{events_at}
use Rattle.board.specs.Logs.{no_row}
use Rattle.signal_log.specs.Points.{rows_or_none}

-- the rows of an hour, none where it isn't held
abbrev pub hour_rows : Store → ℕ → List Row
hour_rows s hour = rows_or_none (rows_at s hour)

-- how many rows of its tenth stand before row n
abbrev pub rows_before : List Row → ℕ → ℕ
rows_before rows n = length (events_at (take n rows) (slice_index_or rows n no_row).at)
