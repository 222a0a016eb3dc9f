-- The tables of a configuration, each as its keys in order and what their values are.
use Rattle.std.specs.Prelude.{ℕ, ℤ, option_and_then, ◌&&◌, ◌||◌, ◌==◌, not, Bool, false, int_lt, pos, List, [], ◌∷◌, Option, Some, None, option_map, unwrap_or, ok_or, Ok, Err}
use Rattle.std.specs.Str.{bytes_eq}
use Rattle.toml.specs.Data.{Data, Members, as_integer}
use Rattle.sig_base.specs.Window.{Span}
use Rattle.sig_base.specs.declared.values.PhaseItem.{PhaseItem}
use Rattle.sig_base.specs.declared.values.Frac.{Frac}
use Rattle.event_codes.specs.declared.channels.Channel.{Channel}
use Rattle.reach.specs.declared.seen.AgeBound.{AgeBound}
use Rattle.reach.specs.declared.seen.AgeBound.TheVariants.{AtLeast, AtMost}
use Rattle.ring_config.specs.declared.error.ConfigError.TheVariants.{Missing, BadValue}
use Rattle.ring_config.specs.declared.error.TableName.{TableName}
use Rattle.ring_config.specs.declared.error.TableName.TheVariants as tables
use Rattle.ring_config.specs.declared.error.KeyName.{KeyName}
use Rattle.ring_config.specs.declared.error.KeyName.TheVariants as keys
use Rattle.ring_config.specs.declared.items.Pair.{Pair}
use Rattle.ring_config.specs.declared.items.OverlapItem.{OverlapItem}
use Rattle.ring_config.specs.declared.items.FloorItem.{FloorItem}
use Rattle.ring_config.specs.declared.items.IntervalItem.{IntervalItem}
use Rattle.ring_config.specs.declared.items.Approach.{Approach}
use Rattle.ring_config.specs.Reading.{Read, ◌>>=◌, EntryData, place, value_at, required, defaulted, optional}
use Rattle.ring_config.specs.Values as values
use Rattle.ring_config.specs.Values.{whole, configured, has_pair, is_pair}
use Rattle.ring_config.specs.Walk.{Rules}

-- ---- phases, pedestrian signals, overlaps, preempts

-- the rules of a table: its name, its limit, the keys of an entry, its values, when it repeats another, and the key that is then named
abbrev pub rules : {X : Type 0} → TableName → ℕ → List KeyName → (EntryData → Read X) → (X → X → Bool) → KeyName → Rules X
rules table limit listed values repeats repeated = record { table = table; limit = limit; listed = listed; values = values; repeats = repeats; repeated = repeated }

-- an entry of the table of phases: its number, its ring and its side of the barrier
unfoldable pub phase_values : EntryData → Read PhaseItem
phase_values e = do
  number ← required (whole 1 16) keys.Number e
  ring ← required (whole 1 4) keys.Ring e
  side ← required (whole 1 4) keys.Side e
  Ok (record { number = number; ring = ring; side = side })

-- the table of phases: at most 16, no number twice
abbrev pub phase_rules : Rules PhaseItem
phase_rules = rules tables.Phase 16 (keys.Number ∷ keys.Ring ∷ keys.Side ∷ []) phase_values (λ p q. p.number == q.number) keys.Number

-- the table of pedestrian signals: at most 16, each at a configured phase of its number, none twice
abbrev pub ped_rules : List PhaseItem → Rules ℕ
ped_rules phases = rules tables.Ped 16 (keys.Number ∷ []) (required (configured phases) keys.Number) (λ p q. p == q) keys.Number

-- an entry of the table of overlaps: its number, and the phases that are its parents
unfoldable pub overlap_values : List PhaseItem → EntryData → Read OverlapItem
overlap_values phases e = do
  number ← required (whole 1 16) keys.Number e
  parents ← required (values.parents phases) keys.Parents e
  Ok (record { number = number; parents = parents })

-- the table of overlaps: at most 16, no number twice
abbrev pub overlap_rules : List PhaseItem → Rules OverlapItem
overlap_rules phases = rules tables.Overlap 16 (keys.Number ∷ keys.Parents ∷ []) (overlap_values phases) (λ p q. p.number == q.number) keys.Number

-- the table of preempts: at most 16, no number twice
abbrev pub preempt_rules : Rules ℕ
preempt_rules = rules tables.Preempt 16 (keys.Number ∷ []) (required (whole 1 16) keys.Number) (λ p q. p == q) keys.Number

-- ---- pairs of phases

-- an entry of a table of pairs: two configured phases that differ, and are no pair that is barred
unfoldable pub pair_values : List PhaseItem → List Pair → EntryData → Read Pair
pair_values phases barred e = do
  a ← required (configured phases) keys.A e
  b ← required (λ d. values.passing (λ b. not (b == a || has_pair barred a b)) (configured phases d)) keys.B e
  Ok (record { a = a; b = b })

-- one of the two tables of pairs of phases, that of conflicts (pairs that may not be served together) or that of pairs that are allowed: at most 120, no pair twice and none that is barred
abbrev pub pair_rules : TableName → List PhaseItem → List Pair → Rules Pair
pair_rules table phases barred = rules table 120 (keys.A ∷ keys.B ∷ []) (pair_values phases barred) (λ p q. is_pair p q.a q.b) keys.A

-- ---- floors and intervals

-- an entry of the table of floors: a channel, one of its colours, and how many tenths it lasts at least
unfoldable pub floor_values : List Channel → EntryData → Read FloorItem
floor_values channels e = do
  channel ← required (values.channel channels) keys.Channel e
  colour ← required (values.colour channel.kind) keys.Colour e
  tenths ← required (whole 0 36000) keys.Tenths e
  Ok (record { spec = channel.spec; colour = colour; tenths = tenths })

-- the table of floors: at most 512, one for a colour of a channel
abbrev pub floor_rules : List Channel → Rules FloorItem
floor_rules channels = rules tables.Floor 512 (keys.Channel ∷ keys.Colour ∷ keys.Tenths ∷ []) (floor_values channels) (λ p q. p.spec == q.spec && p.colour == q.colour) keys.Channel

-- the bound on a colour's age: exactly one of at_least and at_most
abbrev pub bound_of : EntryData → Option Data → Option Data → Read AgeBound
bound_of e None None = Err (Missing (place keys.AtLeast e))
bound_of e None (Some most) = ok_or (whole 1 36000 most) (BadValue (place keys.AtMost e)) >>= λ n. Ok (AtMost n)
bound_of e (Some least) None = ok_or (whole 1 36000 least) (BadValue (place keys.AtLeast e)) >>= λ n. Ok (AtLeast n)
bound_of e (Some least) (Some most) = ok_or (whole 1 36000 least) (BadValue (place keys.AtLeast e)) >>= λ n. Err (BadValue (place keys.AtMost e))

-- an entry of the table of intervals: a channel, one of its colours, and how long that has to last
unfoldable pub interval_values : List Channel → EntryData → Read IntervalItem
interval_values channels e = do
  channel ← required (values.channel channels) keys.Channel e
  colour ← required (values.colour channel.kind) keys.Colour e
  bound ← bound_of e (value_at keys.AtLeast e) (value_at keys.AtMost e)
  Ok (record { spec = channel.spec; colour = colour; bound = bound })

-- the table of rules on durations: at most 256; an entry may repeat another
abbrev pub interval_rules : List Channel → Rules IntervalItem
interval_rules channels = rules tables.Interval 256 (keys.Channel ∷ keys.Colour ∷ keys.AtLeast ∷ keys.AtMost ∷ []) (interval_values channels) (λ p q. false) keys.Other

-- ---- approaches

-- the share of an approach from which on its stop bar detector was on long enough for a split failure: by both of its numbers, of which the first isn't over the second where that is a number; or 4/5 where neither is there
abbrev pub high_of : EntryData → Option Data → Option Data → Read Frac
high_of e None None = Ok (record { num = 4; den = 5 })
high_of e None (Some den) = Err (Missing (place keys.HighNum e))
high_of e (Some num) den = do
  n ← ok_or (values.passing (λ n. not (unwrap_or (option_map (λ d. int_lt d (pos n)) (option_and_then as_integer (value_at keys.HighDen e))) false)) (whole 1 1000 num))
      (BadValue (place keys.HighNum e))
  d ← required (whole 1 1000) keys.HighDen e
  Ok (record { num = n; den = d })

-- an entry of the table of approaches: its name, its phase, its detectors, how many tenths a vehicle takes from the advance detector to the stop bar, which is said only where there is such a detector, and the share
unfoldable pub approach_values : List PhaseItem → EntryData → Read Approach
approach_values phases e = do
  name ← required values.name keys.Name e
  phase ← required (configured phases) keys.Phase e
  advance ← optional (whole 1 128) keys.Advance e
  stop_bar ← optional (whole 1 128) keys.StopBar e
  travel ← defaulted 0 (λ d. option_and_then (λ _. whole 0 300 d) advance) keys.Travel e
  high ← high_of e (value_at keys.HighNum e) (value_at keys.HighDen e)
  Ok (record { name = name; phase = phase; advance = advance; stop_bar = stop_bar; travel = travel; high = high })

-- the table of approaches: at most 64, no name twice
abbrev pub approach_rules : List PhaseItem → Rules Approach
approach_rules phases =
    rules tables.Approach 64 (keys.Name ∷ keys.Phase ∷ keys.Advance ∷ keys.StopBar ∷ keys.Travel ∷ keys.HighNum ∷ keys.HighDen ∷ [])
    (approach_values phases) (λ p q. bytes_eq p.name q.name) keys.Name

-- ---- For contracts alone: parts of what the tables say

-- the bound of an entry of the table of intervals
abbrev pub bound_at : EntryData → Read AgeBound
bound_at e = bound_of e (value_at keys.AtLeast e) (value_at keys.AtMost e)

-- the number is greater than the other one, where there is one
abbrev pub is_over : ℕ → Option ℤ → Bool
is_over n other = unwrap_or (option_map (λ d. int_lt d (pos n)) other) false

-- the first number of a share: not over the second one, where that is a number
abbrev pub numerator : EntryData → Data → Option ℕ
numerator e d = values.passing (λ n. not (is_over n (option_and_then as_integer (value_at keys.HighDen e)))) (whole 1 1000 d)

-- the share of an approach
abbrev pub high_at : EntryData → Read Frac
high_at e = high_of e (value_at keys.HighNum e) (value_at keys.HighDen e)

-- how many tenths a vehicle takes from the advance detector to the stop bar; only where there is such a detector
abbrev pub travel_with : Option ℕ → Data → Option ℕ
travel_with advance d = option_and_then (λ _. whole 0 300 d) advance

-- the table of conflicts: pairs of phases that may not be served together
abbrev pub conflict_rules : List PhaseItem → Rules Pair
conflict_rules phases = pair_rules tables.Conflict phases []

-- the table of pairs that are allowed: phases that may be served together; none is in conflict too
abbrev pub allow_rules : List PhaseItem → List Pair → Rules Pair
allow_rules phases conflicts = pair_rules tables.Allow phases conflicts

-- ---- For contracts alone: the document by stages, as the code reads it

-- the single values of a document
pub record Top : Type 0 where
  pub signal : List ℕ
  pub window : Span
  pub coordination : Bool

-- the tables of a document that say what the intersection has
pub record LayoutArrays : Type 0 where
  pub phase : List Members
  pub ped : List Members
  pub overlap : List Members
  pub preempt : List Members

-- the tables of a document that say more of it
pub record DetailArrays : Type 0 where
  pub conflict : List Members
  pub allow : List Members
  pub floor : List Members
  pub interval : List Members
  pub approach : List Members

-- the keys that a document may have
abbrev pub top_keys : List KeyName
top_keys =
    keys.Signal ∷ keys.Start ∷ keys.Hours ∷ keys.Coordination ∷ keys.Phase ∷ keys.Ped ∷ keys.Overlap ∷ keys.Preempt ∷ keys.Conflict ∷ keys.Allow ∷ keys.Floor ∷ keys.Interval ∷ keys.Approach ∷ []

-- the single values of a document: the signal, the window, and whether it is coordinated
unfoldable pub top_of : EntryData → Read Top
top_of e = do
  signal ← required values.signal keys.Signal e
  start ← required values.start keys.Start e
  window ← required (values.window start) keys.Hours e
  coordination ← defaulted false values.yes_or_no keys.Coordination e
  Ok (record { signal = signal; window = window; coordination = coordination })

-- the tables of a document that say what the intersection has
unfoldable pub layout_arrays_of : EntryData → Read LayoutArrays
layout_arrays_of e = do
  phase ← defaulted [] values.tables keys.Phase e
  ped ← defaulted [] values.tables keys.Ped e
  overlap ← defaulted [] values.tables keys.Overlap e
  preempt ← defaulted [] values.tables keys.Preempt e
  Ok (record { phase = phase; ped = ped; overlap = overlap; preempt = preempt })

-- the tables of a document that say more of it
unfoldable pub detail_arrays_of : EntryData → Read DetailArrays
detail_arrays_of e = do
  conflict ← defaulted [] values.tables keys.Conflict e
  allow ← defaulted [] values.tables keys.Allow e
  floor ← defaulted [] values.tables keys.Floor e
  interval ← defaulted [] values.tables keys.Interval e
  approach ← defaulted [] values.tables keys.Approach e
  Ok (record { conflict = conflict; allow = allow; floor = floor; interval = interval; approach = approach })
