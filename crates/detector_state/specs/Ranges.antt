-- Ranges of tenths in which a channel doesn't change.
use Rattle.std.specs.Prelude.{ℕ, ◌≡◌, ◌<◌, ◌≤◌, ◌+◌, Bool, true, false, List, [], ◌∷◌, slice_index_or}
use Rattle.gap_map.specs.Stretches.{known_at}
use Rattle.channel_path.specs.declared.moves.Move.{Move}
use Rattle.channel_path.specs.declared.moves.Move.TheVariants.{Letter, Gap}
use Rattle.board.specs.History.{Track, Event, letters, events_at}
use Rattle.board.specs.Channels.{track}
use Rattle.board.specs.Logs.{HourLog, no_spec}
use Rattle.detector_state.specs.States.{IsCount}

-- the tenths from a up to b are known, and after the first none has a letter of the channel
abbrev pub IsQuiet : Track → (ℕ → Bool) → (ℕ → List Event) → ℕ → ℕ → Type 0
IsQuiet k known given a b = (t : ℕ) → a ≤ t → t < b → (known t ≡ true) × (a < t → letters k (given t) ≡ [])

abbrev pub IsQuietIn : HourLog → ℕ → ℕ → ℕ → Type 0
IsQuietIn log i a b = IsQuiet (track (slice_index_or log.specs i no_spec)) (known_at log.stretches) (events_at log.rows) a b

-- the tenth up to which nothing changes, and that from which the next range runs
abbrev pub begin_of : Move → ℕ
begin_of (Letter at l n) = at
begin_of (Gap f t) = f

abbrev pub end_of : Move → ℕ
end_of (Letter at l n) = at
end_of (Gap f t) = t

-- the moves cut the tenths from a up to b into quiet ranges and gaps
abbrev pub IsCutBy : Track → (ℕ → Bool) → (ℕ → List Event) → ℕ → ℕ → List Move → Type 0
IsCutBy k known given a b [] = (a ≤ b) × IsQuiet k known given a b
IsCutBy k known given a b (m ∷ ms) = (a ≤ begin_of m) × (begin_of m ≤ end_of m) × IsQuiet k known given a (begin_of m) × ((t : ℕ) → begin_of m ≤ t → t < end_of m → known t ≡ false) × IsCutBy k known given (end_of m) b ms

-- exactly k of the tenths from a up to b have the property P
abbrev pub Counts : (ℕ → Type 0) → ℕ → ℕ → ℕ → Type 0
Counts P a b k = (n : ℕ) × (a + n ≡ b) × IsCount P a n k
