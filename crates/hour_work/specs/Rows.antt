-- The rows of a store, hour by hour.
use Rattle.std.specs.Prelude.{ℕ, List, take}
use Rattle.sig_base.specs.declared.values.Row.{Row}
use Rattle.hour_sweep.specs.Rows.{known_rows}
use Rattle.hour_store.specs.Store.{Store, is_known, rows_of}
use Rattle.signal_log.specs.Rows.{hour_rows}

-- the known rows of an hour
abbrev pub own_rows : Store → ℕ → List Row
own_rows s hour = known_rows (is_known s) (hour_rows s hour)

-- the known rows of all hours before an hour
abbrev pub earlier_rows : Store → ℕ → List Row
earlier_rows s hour = known_rows (is_known s) (rows_of (take hour s.hours))
