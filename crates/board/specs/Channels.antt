-- The specs of channels, and the tracks that they stand for.
use Rattle.std.specs.Prelude.{◌≢◌, ℕ, ◌<◌, nat_eq, ◌&&◌, Bool, false, if◌then◌else◌, Option, Some, None, List, length, slice_index_or}
use Rattle.event_codes.specs.declared.channels.Channel.{Channel}
use Rattle.event_codes.specs.Cells.{kind_number}
use Rattle.event_codes.specs.Channels.{channel_in_table}
use Rattle.channel_tables.specs.declared.spec.Spec.{Spec}
use Rattle.channel_tables.specs.Spec.{IsSpec, rules_of}
use Rattle.channel_tables.specs.Letters.{letter_in_table, IsNumber}
use Rattle.board.specs.History.{Track}

-- a code and a parameter belong to this channel: they have a channel, and it is this one
abbrev pub is_channel : Channel → Option Channel → Bool
is_channel c None = false
is_channel c (Some d) = nat_eq (kind_number c.kind) (kind_number d.kind) && nat_eq c.number d.number

-- the letter of a code and a parameter, where they are of the spec's channel
abbrev pub letter_in : Spec → ℕ → ℕ → Option ℕ
letter_in s c p = if is_channel s.channel (channel_in_table c p) then letter_in_table c p else None

-- what is followed of a channel: its machine, and which codes and parameters are its letters
abbrev pub track : Spec → Track
track s = record { rules = rules_of s; letter = letter_in s }

-- specs that may be followed together: the floors of each fit its kind, its number is one of its kind, and no two are of one channel
pub record AreSpecs (specs : List Spec) : Type 0 where
  pub fit : (i : ℕ) (d : Spec) → i < length specs → IsSpec (slice_index_or specs i d)
  pub numbered : (i : ℕ) (d : Spec) → i < length specs → IsNumber (slice_index_or specs i d).channel.kind (slice_index_or specs i d).channel.number
  pub distinct : (i j : ℕ) (d : Spec) → i < length specs → j < length specs → i ≢ j → (slice_index_or specs i d).channel ≢ (slice_index_or specs j d).channel
