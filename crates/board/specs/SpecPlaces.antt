-- The place of each channel among the specs, in a table by the channel.
use Rattle.std.specs.Prelude.{◌≡◌, ◌≢◌, ◌⊎◌, ℕ, ◌<◌, ◌≤◌, List, Option, MatchOption, length, slice_index_or}
use Rattle.event_codes.specs.declared.channels.Channel.{Channel}
use Rattle.event_codes.specs.Cells.{cell_of}
use Rattle.channel_tables.specs.declared.spec.Spec.{Spec}
use Rattle.board.specs.Logs.{no_spec}

-- the place of the channel among the first n specs, or 65535 where it has none
abbrev pub IsPlaceOf : List Spec → ℕ → Channel → ℕ → Type 0
IsPlaceOf specs n c x = ((x < n) × ((slice_index_or specs x no_spec).channel ≡ c)) ⊎ ((x ≡ 65535) × ((i : ℕ) → i < n → (slice_index_or specs i no_spec).channel ≢ c))

-- the channel has this place among the specs, or none where it isn't among them
abbrev pub IsPlaceAmong : List Spec → Channel → Option ℕ → Type 0
IsPlaceAmong specs c o = MatchOption o ((i : ℕ) → i < length specs → (slice_index_or specs i no_spec).channel ≢ c) (λ x. (x < length specs) × ((slice_index_or specs x no_spec).channel ≡ c))

-- the channels of the first n specs have their cells among so many
abbrev pub HaveCells : List Spec → ℕ → ℕ → Type 0
HaveCells specs n count = (i : ℕ) → i < n → cell_of (slice_index_or specs i no_spec).channel < count

-- each cell has the place of its channel among the first n specs
abbrev pub AreCells : List Spec → ℕ → List ℕ → Type 0
AreCells specs n cells = (c : Channel) → cell_of c < length cells → IsPlaceOf specs n c (slice_index_or cells (cell_of c) 65535)

-- among all specs, of which each has its cell
abbrev pub IsTable : List Spec → List ℕ → Type 0
IsTable specs cells = (length specs ≤ 60000) × HaveCells specs (length specs) (length cells) × AreCells specs (length specs) cells
