-- A configuration: the tables in their order, and what they say together.
use Rattle.std.specs.Prelude.{ℕ, ◌+◌, ◌&&◌, ◌||◌, ◌==◌, not, Bool, true, false, nat_lt, if◌then◌else◌, List, [], ◌∷◌, ◌++◌, length, map, filter, flat_map, find, position, Option, Some, None, option_map, option_and_then, option_to_list, unwrap_or, ok_or, Ok}
use Rattle.std.specs.List.{range_with_len, list_any}
use Rattle.std.specs.Str.{bytes_eq}
use Rattle.std.specs.Str.Lossy.{utf8_valid_len}
use Rattle.toml.specs.Data.{Members, as_bool, as_str}
use Rattle.toml.specs.Parse.{parse_document}
use Rattle.sig_base.specs.Window.{Span}
use Rattle.sig_base.specs.declared.values.PhaseItem.{PhaseItem}
use Rattle.sig_base.specs.Numbers.{has_number, has_phase}
use Rattle.event_codes.specs.declared.channels.Kind.{Kind}
use Rattle.event_codes.specs.declared.channels.Kind.TheVariants as kinds
use Rattle.event_codes.specs.declared.channels.Channel.{Channel}
use Rattle.event_codes.specs.Cells.{kind_number}
use Rattle.channel_tables.specs.declared.spec.Spec.{Spec}
use Rattle.row_reader.specs.Signal.{is_signal}
use Rattle.row_reader.specs.Stamp.{hour_stamp_of}
use Rattle.ring_config.specs.declared.error.ConfigError.TheVariants.{NotToml}
use Rattle.ring_config.specs.declared.error.TableName.TheVariants as tables
use Rattle.ring_config.specs.declared.error.KeyName.TheVariants as keys
use Rattle.ring_config.specs.declared.items.Pair.{Pair}
use Rattle.ring_config.specs.declared.items.OverlapItem.{OverlapItem}
use Rattle.ring_config.specs.declared.items.FloorItem.{FloorItem}
use Rattle.ring_config.specs.declared.items.IntervalItem.{IntervalItem}
use Rattle.ring_config.specs.declared.items.Approach.{Approach}
use Rattle.ring_config.specs.Reading.{Read, ◌>>=◌, EntryData, only, required, defaulted}
use Rattle.ring_config.specs.Values as values
use Rattle.ring_config.specs.Values.{has_pair, passing}
use Rattle.ring_config.specs.Walk.{entries_of}
use Rattle.ring_config.specs.Tables.{Top, LayoutArrays, DetailArrays, top_keys, top_of, layout_arrays_of, detail_arrays_of, phase_rules, ped_rules, overlap_rules, preempt_rules, conflict_rules, allow_rules, floor_rules, interval_rules, approach_rules, pair_rules}

-- an accepted configuration: the window, the signal, what the intersection has, what is said of it, and the tracked channels with their floors
pub record Settings : Type 0 where
  pub window : Span
  pub signal : List ℕ
  pub coordination : Bool
  pub phases : List PhaseItem
  pub peds : List ℕ
  pub overlaps : List OverlapItem
  pub preempts : List ℕ
  pub conflicts : List Pair
  pub allows : List Pair
  pub specs : List Spec
  pub intervals : List IntervalItem
  pub approaches : List Approach

-- ---- the tracked channels

-- what the intersection has: phases, pedestrian signals, overlaps, preempts
pub record Layout : Type 0 where
  pub phases : List PhaseItem
  pub peds : List ℕ
  pub overlaps : List OverlapItem
  pub preempts : List ℕ

-- the channels of a kind with these numbers, of 1 to most, in ascending order and each once
unfoldable pub numbered : Kind → ℕ → List ℕ → List Channel
numbered kind most numbers = filter (λ c. has_number numbers c.number) (map (λ n. record { kind = kind; number = n }) (range_with_len 1 most))

-- the channels that floors and intervals may name, and the preempt inputs, which stand among them
unfoldable pub signal_channels : Layout → List Channel
signal_channels l =
    numbered kinds.Phase 16 (map (λ p. p.number) l.phases) ++ numbered kinds.Ped 16 l.peds
    ++ numbered kinds.Overlap 16 (map (λ o. o.number) l.overlaps) ++ numbered kinds.PreemptInput 16 l.preempts
    ++ numbered kinds.PreemptService 16 l.preempts

-- all tracked channels in their order: those of the signal, the detectors of pedestrians and of vehicles, and the coordination
unfoldable pub all_channels : Layout → List Approach → Bool → List Channel
all_channels layout approaches coordination =
    signal_channels layout ++ numbered kinds.PedDetector 16 layout.peds
    ++ numbered kinds.Detector 128 (flat_map (λ a. option_to_list a.advance ++ option_to_list a.stop_bar) approaches)
    ++ (if coordination then record { kind = kinds.Coordination; number = 0 } ∷ [] else [])

-- the floors of the sixteen colours that a spec has room for, 0 where no entry sets one
unfoldable pub floors_of : List FloorItem → ℕ → List ℕ
floors_of floors spec = map (λ colour. unwrap_or (option_map (λ f. f.tenths) (find (λ f. f.spec == spec && f.colour == colour) floors)) 0) (range_with_len 0 16)

-- the channels with their floors, counted from i
unfoldable pub specs_from : List FloorItem → ℕ → List Channel → List Spec
specs_from floors i [] = []
specs_from floors i (c ∷ cs) = record { channel = c; floors = floors_of floors i } ∷ specs_from floors (i + 1) cs

-- ---- the document

-- the configuration of a document, or the first refusal: no key but those of the format; then the single values, the arrays of tables, and the entries table by table; floors and rules on durations name the channels of the signal, and the tracked channels have their floors
unfoldable pub config_at : Members → Read Settings
config_at ms = do
  let e : EntryData = record { table = tables.Top; index = 0; members = ms }
  _ ← only (keys.Signal ∷ keys.Start ∷ keys.Hours ∷ keys.Coordination ∷ keys.Phase ∷ keys.Ped ∷ keys.Overlap ∷ keys.Preempt
      ∷ keys.Conflict ∷ keys.Allow ∷ keys.Floor ∷ keys.Interval ∷ keys.Approach ∷ []) e
  signal ← required (λ d. passing is_signal (as_str d)) keys.Signal e
  start ← required (λ d. option_and_then hour_stamp_of (as_str d)) keys.Start e
  window ← required (values.window start) keys.Hours e
  coordination ← defaulted false as_bool keys.Coordination e
  phase_tables ← defaulted [] values.tables keys.Phase e
  ped_tables ← defaulted [] values.tables keys.Ped e
  overlap_tables ← defaulted [] values.tables keys.Overlap e
  preempt_tables ← defaulted [] values.tables keys.Preempt e
  conflict_tables ← defaulted [] values.tables keys.Conflict e
  allow_tables ← defaulted [] values.tables keys.Allow e
  floor_tables ← defaulted [] values.tables keys.Floor e
  interval_tables ← defaulted [] values.tables keys.Interval e
  approach_tables ← defaulted [] values.tables keys.Approach e
  phases ← entries_of phase_rules phase_tables
  peds ← entries_of (ped_rules phases) ped_tables
  overlaps ← entries_of (overlap_rules phases) overlap_tables
  preempts ← entries_of preempt_rules preempt_tables
  let layout : Layout = record { phases = phases; peds = peds; overlaps = overlaps; preempts = preempts }
  conflicts ← entries_of (pair_rules tables.Conflict phases []) conflict_tables
  allows ← entries_of (pair_rules tables.Allow phases conflicts) allow_tables
  floors ← entries_of (floor_rules (signal_channels layout)) floor_tables
  intervals ← entries_of (interval_rules (signal_channels layout)) interval_tables
  approaches ← entries_of (approach_rules phases) approach_tables
  Ok (record {
    window = window;
    signal = signal;
    coordination = coordination;
    phases = phases;
    peds = peds;
    overlaps = overlaps;
    preempts = preempts;
    conflicts = conflicts;
    allows = allows;
    intervals = intervals;
    approaches = approaches;
    specs = specs_from floors 0 (all_channels layout approaches coordination);
  })

-- the table that the bytes are, where they are UTF-8 and TOML
unfoldable pub document_of : List ℕ → Option Members
document_of bytes = if nat_lt (utf8_valid_len bytes) (length bytes) then None else parse_document bytes

-- the configuration that the bytes are, or the first refusal: bytes that are no table of TOML are refused as such
unfoldable pub config_of : List ℕ → Read Settings
config_of bytes = ok_or (document_of bytes) NotToml >>= config_at

-- ---- looking up

-- the place of a channel among the specs: of the first one of its kind and number
abbrev pub spec_place : List Spec → Channel → Option ℕ
spec_place specs channel = position (λ s. kind_number s.channel.kind == kind_number channel.kind && s.channel.number == channel.number) specs

-- the place of an approach of this name
abbrev pub approach_place : List Approach → List ℕ → Option ℕ
approach_place approaches name = position (λ a. bytes_eq name a.name) approaches

-- ---- conflicts

-- by rings and sides two phases can't be served together: they are in one ring, or on different sides of the barrier
abbrev pub clash : Option PhaseItem → Option PhaseItem → Bool
clash (Some p) (Some q) = p.ring == q.ring || not (p.side == q.side)
clash _ _ = false

-- phases a and b may not be served together: by an entry; else unless an entry allows them, by their rings and sides
unfoldable pub in_conflict : Settings → ℕ → ℕ → Bool
in_conflict c a b =
    if has_pair c.conflicts a b then true
    else (if has_pair c.allows a b then false else clash (find (λ p. p.number == a) c.phases) (find (λ p. p.number == b) c.phases))

-- ---- For contracts alone: parts of these

-- the configured phase with this number
abbrev pub phase_of : List PhaseItem → ℕ → Option PhaseItem
phase_of phases number = find (λ p. p.number == number) phases

-- two phases conflict: by an entry; else unless an entry allows them, by their rings and sides
abbrev pub conflict_by : List Pair → List Pair → List PhaseItem → ℕ → ℕ → Bool
conflict_by conflicts allows phases a b =
    if has_pair conflicts a b then true
    else (if has_pair allows a b then false else clash (phase_of phases a) (phase_of phases b))

-- the number of a kind of channel
abbrev pub kind_rank : Kind → ℕ
kind_rank kind = kind_number kind

-- both are one channel: of one kind and one number
abbrev pub is_same_channel : Channel → Channel → Bool
is_same_channel a b = kind_rank a.kind == kind_rank b.kind && a.number == b.number

-- the place of a kind of channel in the order of specs
abbrev pub spec_rank : Kind → ℕ
spec_rank kinds.Phase = 0
spec_rank kinds.Ped = 1
spec_rank kinds.Overlap = 2
spec_rank kinds.PreemptInput = 3
spec_rank kinds.PreemptService = 4
spec_rank kinds.PedDetector = 5
spec_rank kinds.Detector = 6
spec_rank kinds.Coordination = 7

-- the number, where there is one, as a list
abbrev pub some_number : Option ℕ → List ℕ
some_number n = option_to_list n

-- the detectors of an approach
abbrev pub detectors : Approach → List ℕ
detectors a = some_number a.advance ++ some_number a.stop_bar

-- the coordination as a tracked channel, where it is on
abbrev pub coordination_channel : Bool → List Channel
coordination_channel on = if on then record { kind = kinds.Coordination; number = 0 } ∷ [] else []

-- the floor of a colour of a spec, 0 where no entry sets it
abbrev pub floor_of : List FloorItem → ℕ → ℕ → ℕ
floor_of floors spec colour = unwrap_or (option_map (λ f. f.tenths) (find (λ f. f.spec == spec && f.colour == colour) floors)) 0

-- a channel of this kind and number is tracked: the configuration names it, and a pedestrian detector comes with its signal, input and service with their preempt
abbrev pub is_tracked_as : Settings → Kind → ℕ → Bool
is_tracked_as c kinds.Phase n = has_phase c.phases n
is_tracked_as c kinds.Ped n = has_number c.peds n
is_tracked_as c kinds.Overlap n = list_any (λ o. o.number == n) c.overlaps
is_tracked_as c kinds.PreemptInput n = has_number c.preempts n
is_tracked_as c kinds.PreemptService n = has_number c.preempts n
is_tracked_as c kinds.PedDetector n = has_number c.peds n
is_tracked_as c kinds.Detector n = list_any (λ a. has_number (detectors a) n) c.approaches
is_tracked_as c kinds.Coordination n = c.coordination && n == 0

-- the channel is one that the configuration names or implies
abbrev pub is_tracked : Settings → Channel → Bool
is_tracked c channel = is_tracked_as c channel.kind channel.number

-- ---- For contracts alone: the document by stages, as the code reads it

-- what the tables say that the intersection has, table by table
unfoldable pub layout_of : LayoutArrays → Read Layout
layout_of arrays = do
  phases ← entries_of phase_rules arrays.phase
  peds ← entries_of (ped_rules phases) arrays.ped
  overlaps ← entries_of (overlap_rules phases) arrays.overlap
  preempts ← entries_of preempt_rules arrays.preempt
  Ok (record { phases = phases; peds = peds; overlaps = overlaps; preempts = preempts })

-- what is said of the phases and channels of a layout
pub record Details : Type 0 where
  pub conflicts : List Pair
  pub allows : List Pair
  pub floors : List FloorItem
  pub intervals : List IntervalItem
  pub approaches : List Approach

-- what the tables say of the phases and channels of a layout, table by table
unfoldable pub details_of : Layout → DetailArrays → Read Details
details_of layout arrays = do
  conflicts ← entries_of (conflict_rules layout.phases) arrays.conflict
  allows ← entries_of (allow_rules layout.phases conflicts) arrays.allow
  floors ← entries_of (floor_rules (signal_channels layout)) arrays.floor
  intervals ← entries_of (interval_rules (signal_channels layout)) arrays.interval
  approaches ← entries_of (approach_rules layout.phases) arrays.approach
  Ok (record { conflicts = conflicts; allows = allows; floors = floors; intervals = intervals; approaches = approaches })

-- all tracked channels with their floors
abbrev pub specs_of : Top → Layout → Details → List Spec
specs_of top layout details =
    specs_from details.floors 0 (all_channels layout details.approaches top.coordination)

-- the configuration that these parts make
abbrev pub settings_of : Top → Layout → Details → Settings
settings_of top layout details = record {
  window = top.window;
  signal = top.signal;
  coordination = top.coordination;
  phases = layout.phases;
  peds = layout.peds;
  overlaps = layout.overlaps;
  preempts = layout.preempts;
  conflicts = details.conflicts;
  allows = details.allows;
  specs = specs_of top layout details;
  intervals = details.intervals;
  approaches = details.approaches;
}

-- the document itself as an entry without a table
abbrev pub document : Members → EntryData
document ms = record { table = tables.Top; index = 0; members = ms }

-- what all tables of a document say
pub record Parts : Type 0 where
  pub top : Top
  pub layout : Layout
  pub details : Details

-- what a document says, part by part: no key but those of the format, then the single values, then the tables
unfoldable pub parts_of : EntryData → Read Parts
parts_of e = do
  _ ← only top_keys e
  top ← top_of e
  layout_arrays ← layout_arrays_of e
  detail_arrays ← detail_arrays_of e
  layout ← layout_of layout_arrays
  details ← details_of layout detail_arrays
  Ok (record { top = top; layout = layout; details = details })

-- the configuration of a document by stages
abbrev pub staged_at : Members → Read Settings
staged_at ms = parts_of (document ms) >>= λ p. Ok (settings_of p.top p.layout p.details)

-- the configuration of a document that may not be one
abbrev pub config_in : Option Members → Read Settings
config_in document = ok_or document NotToml >>= config_at
