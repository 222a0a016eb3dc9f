-- One hour of the log for some channels.
use Rattle.std.specs.Prelude.{ℕ, ◌+◌, ◌*◌, ℤ, Option, List, []}
use Rattle.event_codes.specs.declared.channels.Kind.TheVariants.{Phase}
use Rattle.sig_base.specs.declared.values.Row.{Row}
use Rattle.sig_base.specs.HourRows.{AreRowsOf}
use Rattle.span_set.specs.declared.set.Span.{Span}
use Rattle.gap_map.specs.declared.stretch.Stretch.{Stretch}
use Rattle.gap_map.specs.Stretches.{FollowOn}
use Rattle.channel_tables.specs.declared.spec.Spec.{Spec}

-- the first tenth of an hour
abbrev pub first_tenth : ℕ → ℕ
first_tenth h = 36000 * h

-- the tenth after an hour's last
abbrev pub end_tenth : ℕ → ℕ
end_tenth h = 36000 * h + 36000

-- these are the rows and the stretches of the hour
pub record IsHour (hour : ℕ) (rows : List Row) (ss : List Stretch) : Type 0 where
  pub are_rows : AreRowsOf hour rows
  pub follow : FollowOn (first_tenth hour) (end_tenth hour) ss

-- an hour of the log for some channels, with each channel's states before it and those that are admitted after it
pub record HourLog : Type 0 where
  pub hour : ℕ
  pub specs : List Spec
  pub rows : List Row
  pub stretches : List Stretch
  pub before : List (List (List Span))
  pub after : List (List (Option ℤ))

abbrev pub hour_log : ℕ → List Spec → List Row → List Stretch → List (List (List Span)) → List (List (Option ℤ)) → HourLog
hour_log h specs rows ss before after = record { hour = h; specs = specs; rows = rows; stretches = ss; before = before; after = after }

-- stands where a list has no spec
abbrev pub no_spec : Spec
no_spec = record { channel = record { kind = Phase; number = 0 }; floors = [] }

-- stands where a list has no row
abbrev pub no_row : Row
no_row = record { at = 0; code = 0; param = 0 }
