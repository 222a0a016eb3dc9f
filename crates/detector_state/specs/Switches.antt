-- A channel that takes every row in every colour, and its place in a log.
use Rattle.std.specs.Prelude.{ℕ, ◌≡◌, ◌<◌, Option, [], ◌∷◌, length, slice_index_or}
use Rattle.event_codes.specs.declared.channels.Channel.{Channel}
use Rattle.event_codes.specs.declared.channels.Kind.{Kind}
use Rattle.event_codes.specs.declared.channels.Kind.TheVariants.{Phase, Ped, Overlap, Detector, PedDetector, PreemptInput, PreemptService, Coordination}
use Rattle.channel_tables.specs.declared.spec.Spec.{Spec}
use Rattle.channel_tables.specs.Spec.{IsSpec}
use Rattle.channel_tables.specs.Table.{next_by}
use Rattle.channel_tables.specs.Tables.{table_of}
use Rattle.board.specs.History.{Track}
use Rattle.board.specs.Channels.{track}
use Rattle.board.specs.Logs.{no_spec}
use Rattle.signal_log.specs.Log.{Log, track_at}
use Rattle.detector_state.specs.Free.{IsOrdered, Order}

-- the channels of this kind take every row in every colour
abbrev pub IsSwitch : Kind → Type 0
IsSwitch Phase = ⊥
IsSwitch Ped = ⊥
IsSwitch Overlap = ⊥
IsSwitch Detector = Unit {0}
IsSwitch PedDetector = Unit {0}
IsSwitch PreemptInput = Unit {0}
IsSwitch PreemptService = ⊥
IsSwitch Coordination = ⊥

-- the channel without floors
abbrev pub switch_spec : Channel → Spec
switch_spec channel = record { channel = channel; floors = 0 ∷ 0 ∷ 0 ∷ 0 ∷ 0 ∷ 0 ∷ 0 ∷ 0 ∷ 0 ∷ 0 ∷ 0 ∷ 0 ∷ 0 ∷ 0 ∷ 0 ∷ 0 ∷ [] }

abbrev pub switch_track : Channel → Track
switch_track channel = track (switch_spec channel)

-- how many colours the channel has, and where its letters lead
abbrev pub colours_of : Channel → ℕ
colours_of channel = length (table_of channel.kind).names

abbrev pub next_of : Channel → ℕ → ℕ → Option ℕ
next_of channel = next_by (table_of channel.kind).signs (table_of channel.kind).lines

-- the channel is that of the i-th spec of the log
pub record IsChannelOf (log : Log) (i : ℕ) (channel : Channel) : Type 0 where
  pub within : i < length log.specs
  pub fits : IsSpec (slice_index_or log.specs i no_spec)
  pub same : (slice_index_or log.specs i no_spec).channel ≡ channel

-- the colours of such a channel have an order that no row turns round, in which on is the greatest
abbrev pub SwitchesAreOrdered : Type 0
SwitchesAreOrdered = (log : Log) (i : ℕ) (channel : Channel) → IsChannelOf log i channel → IsSwitch channel.kind → (o : Order) × IsOrdered (track_at log i).rules o × (o.on ≡ 1)
