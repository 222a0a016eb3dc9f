-- What an hour cut into parts tells of the window.
use Rattle.std.specs.Prelude.{ℕ, ◌≡◌, ◌↔◌, ◌<◌, ◌≤◌, pos, ◌-ℤ◌, Bool, true, IsTrue, Option, is_some, List, [], ◌∷◌, length, slice_index_or}
use Rattle.span_set.specs.declared.set.Span.{Span}
use Rattle.sig_base.specs.declared.values.Row.{Row}
use Rattle.gap_map.specs.declared.stretch.Stretch.{Stretch}
use Rattle.gap_map.specs.Stretches.{IsCut, known_at, known_in}
use Rattle.colour_machine.specs.Mask.{Has}
use Rattle.reach.specs.Runs.{State}
use Rattle.reach.specs.Past.{Holds}
use Rattle.board.specs.History.{Track, events_at, letters}
use Rattle.board.specs.Hours.{Clamped}
use Rattle.board.specs.Logs.{IsHour, first_tenth, end_tenth, no_spec}
use Rattle.board.specs.Channels.{AreSpecs}
use Rattle.channel_tables.specs.declared.spec.Spec.{Spec}
use Rattle.event_codes.specs.declared.channels.Channel.{Channel}
use Rattle.sig_base.specs.HourRows.{AreRowsOf}
use Rattle.hour_store.specs.Store.{Store}
use Rattle.detector_state.specs.Ranges.{Counts}
use Rattle.signal_log.specs.Points.{ArePastsAt, HasHour, rows_or_none}
use Rattle.signal_log.specs.Log.{Log, log_of}
use Rattle.signal_log.specs.States.{IsReached}
use Rattle.detector_state.specs.Tells.{IsColourReached, IsSure}
use Rattle.detector_state.specs.declared.part.Part.{Part}
use Rattle.detector_state.specs.declared.tenths.OnTenths.{OnTenths}
use Rattle.detector_state.specs.Switches.{IsChannelOf, switch_track}
use Rattle.detector_state.specs.declared.asked.Asked.{Asked}
use Rattle.detector_state.specs.declared.asked.Asked.TheVariants.{Only, May}

-- these stretches are those of an hour of the log, and these rows have the letters of the channel that the hour's rows have
pub record IsHourIn (log : Log) (k : Track) (hour : ℕ) (rows : List Row) (ss : List Stretch) : Type 0 where
  pub is_hour : IsHour hour rows ss
  pub known : (x : ℕ) → first_tenth hour ≤ x → x < end_tenth hour → known_at ss x ≡ log.known x
  pub events : (x : ℕ) → first_tenth hour ≤ x → x < end_tenth hour → log.known x ≡ true → letters k (events_at rows x) ≡ letters k (events_at log.rows x)

-- these are the states of channel i of the log at the point before the hour, with the entries that are older than an hour made one
abbrev pub IsPastAt : Log → ℕ → ℕ → List (List Span) → Type 0
IsPastAt log i hour before = (u : State) → Holds before u ↔ Clamped (pos (first_tenth hour) -ℤ pos 36001) (IsReached log i (first_tenth hour)) u

-- the mask has the colours that are reached at the end of tenth x, and there are some
pub record Tells (log : Log) (i x mask : ℕ) : Type 0 where
  pub colours : (c : ℕ) → Has mask c ↔ IsColourReached log i c x
  pub some : (c : ℕ) × IsColourReached log i c x

-- the parts follow one another from tenth a up to b, and none is empty
abbrev pub FollowOn : ℕ → ℕ → List Part → Type 0
FollowOn a b [] = a ≡ b
FollowOn a b (p ∷ ps) = (p.from ≡ a) × (a < p.to) × FollowOn p.to b ps

-- and each tells of each of its tenths
abbrev pub TellsEach : Log → ℕ → ℕ → ℕ → List Part → Type 0
TellsEach log i a b [] = a ≡ b
TellsEach log i a b (p ∷ ps) = (p.from ≡ a) × (a < p.to) × ((x : ℕ) → a ≤ x → x < p.to → Tells log i x p.mask) × TellsEach log i p.to b ps

-- the parts tell of each tenth of the hour
abbrev pub IsSwitched : Log → ℕ → ℕ → List Part → Type 0
IsSwitched log i hour parts = TellsEach log i (first_tenth hour) (end_tenth hour) parts

-- the tenths from `from` up to `to` are among those from a up to b
abbrev pub LiesIn : ℕ → ℕ → ℕ → ℕ → Type 0
LiesIn a b from to = (a ≤ from) × (from ≤ to) × (to ≤ b)

-- what is asked holds at the end of tenth x
abbrev pub Meets : Log → ℕ → Asked → ℕ → Type 0
Meets log i (Only c) x = IsSure log i c x
Meets log i (May c) x = IsColourReached log i c x

-- the colour that is asked for is below 16
abbrev pub IsAskable : Asked → Type 0
IsAskable (Only c) = c < 16
IsAskable (May c) = c < 16

-- the colours of the mask are what is asked
abbrev pub IsMet : Asked → ℕ → Type 0
IsMet (Only c) mask = (d : ℕ) → Has mask d ↔ (d ≡ c)
IsMet (May c) mask = Has mask c

-- at how many of the tenths from a up to b the detector was sure to be on, and at how many it may have been, and whether it was sure to have a fault at one of them, each by the log up to there
pub record AreTenths (log : Log) (i a b : ℕ) (t : OnTenths) : Type 0 where
  pub least : Counts (IsSure log i 1) a b t.least
  pub greatest : Counts (IsColourReached log i 1) a b t.greatest
  pub fault : IsTrue t.fault ↔ ((x : ℕ) × (a ≤ x) × (x < b) × IsSure log i 2 x)

-- where these rows and stretches are the hour's, the parts cover it
abbrev pub CoversHour : ℕ → List Row → List Stretch → List Part → Type 0
CoversHour hour rows ss parts = IsHour hour rows ss → FollowOn (first_tenth hour) (end_tenth hour) parts

-- they tell of the hour of each log that has the channel, these rows and stretches, and these states before the hour
abbrev pub TellsColours : Channel → List (List Span) → ℕ → List Row → List Stretch → List Part → Type 0
TellsColours channel before hour rows ss parts = (log : Log) (i : ℕ) → IsChannelOf log i channel → IsHourIn log (switch_track channel) hour rows ss → IsPastAt log i hour before → IsSwitched log i hour parts

-- of the tenths from `from` up to `to` of each log of whose tenths about them the parts tell: at how many the channel is sure to be on
abbrev pub IsLeastOn : List Part → ℕ → ℕ → ℕ → Type 0
IsLeastOn parts from to n = (log : Log) (i a b : ℕ) → TellsEach log i a b parts → LiesIn a b from to → Counts (IsSure log i 1) from to n

-- at how many it may be on
abbrev pub IsGreatestOn : List Part → ℕ → ℕ → ℕ → Type 0
IsGreatestOn parts from to n = (log : Log) (i a b : ℕ) → TellsEach log i a b parts → LiesIn a b from to → Counts (IsColourReached log i 1) from to n

-- and whether it is sure to have a fault at one of them
abbrev pub IsSureFault : List Part → ℕ → ℕ → Bool → Type 0
IsSureFault parts from to is = (log : Log) (i a b : ℕ) → TellsEach log i a b parts → LiesIn a b from to → IsTrue is ↔ ((x : ℕ) × (from ≤ x) × (x < to) × IsSure log i 2 x)

-- numbers of tenths from x up to `from` go on up to `to`, in each log of whose tenths about these the parts tell
abbrev pub GoesOn : List Part → ℕ → ℕ → OnTenths → OnTenths → Type 0
GoesOn parts from to before after = (log : Log) (i a b x : ℕ) → TellsEach log i a b parts → LiesIn a b from to → AreTenths log i x from before → AreTenths log i x to after

-- an hour of a store is one of its log, and each Past at the point before it is of its channel
abbrev pub HoursFit : Type 0
HoursFit = (specs : List Spec) (s : Store) (i hour : ℕ) (rows : Option (List Row)) (blanks : List Span) (ss : List Stretch) (pasts : List (List (List Span))) → AreSpecs specs → i < length specs → AreRowsOf hour (rows_or_none rows) → HasHour s hour rows blanks → IsCut (known_in (is_some rows) blanks) (first_tenth hour) (end_tenth hour) ss → ArePastsAt (log_of specs s) hour pasts → ((k : Track) → IsHourIn (log_of specs s) k hour (rows_or_none rows) ss) × IsPastAt (log_of specs s) i hour (slice_index_or pasts i []) × IsChannelOf (log_of specs s) i (slice_index_or specs i no_spec).channel
