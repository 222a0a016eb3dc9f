-- What holds of every accepted configuration, table by table.
use Rattle.std.specs.Prelude.{is_some, ◌≡◌, ◌≢◌, ◌⊎◌, ℕ, ◌+◌, ◌<◌, ◌≤◌, true, false, IsTrue, IfSome, List, length, All, AllPairs, slice_get, Some, None}
use Rattle.sig_base.specs.declared.values.PhaseItem.{PhaseItem}
use Rattle.sig_base.specs.Numbers.{has_phase}
use Rattle.event_codes.specs.declared.channels.Kind.{Kind}
use Rattle.event_codes.specs.declared.channels.Kind.TheVariants.{Phase, Ped, Overlap, PreemptService}
use Rattle.event_codes.specs.declared.channels.Channel.{Channel}
use Rattle.colour_machine.specs.Mask.{Has}
use Rattle.channel_tables.specs.declared.spec.Spec.{Spec}
use Rattle.channel_tables.specs.Spec.{IsSpec}
use Rattle.channel_tables.specs.Tables.{table_of}
use Rattle.reach.specs.declared.seen.AgeBound.{AgeBound}
use Rattle.reach.specs.declared.seen.AgeBound.TheVariants.{Any, AtLeast, AtMost}
use Rattle.ring_config.specs.declared.items.Pair.{Pair}
use Rattle.ring_config.specs.declared.items.OverlapItem.{OverlapItem}
use Rattle.ring_config.specs.declared.items.IntervalItem.{IntervalItem}
use Rattle.ring_config.specs.declared.items.Approach.{Approach}
use Rattle.row_reader.specs.Signal.{is_signal}
use Rattle.ring_config.specs.Values.{has_pair, is_name_byte, is_short_text, phases_in}
use Rattle.ring_config.specs.Settings.{Settings, spec_rank, is_tracked, spec_place}

abbrev pub IsBetween : ℕ → ℕ → ℕ → Type 0
IsBetween low high n = (low ≤ n) × (n ≤ high)

-- a phase has this number
abbrev pub IsConfigured : List PhaseItem → ℕ → Type 0
IsConfigured phases n = IsTrue (has_phase phases n)

pub record IsPhase (p : PhaseItem) : Type 0 where
  pub number : IsBetween 1 16 p.number
  pub ring : IsBetween 1 4 p.ring
  pub side : IsBetween 1 4 p.side

-- an overlap has 1 to 8 parents, all of them configured; bit b is phase b + 1
pub record IsOverlap (phases : List PhaseItem) (o : OverlapItem) : Type 0 where
  pub number : IsBetween 1 16 o.number
  pub parents : (b : ℕ) → Has o.parents b → IsConfigured phases (b + 1)
  pub some : (b : ℕ) × Has o.parents b
  pub few : length (phases_in o.parents) ≤ 8

-- two configured phases that differ
pub record IsPairOf (phases : List PhaseItem) (p : Pair) : Type 0 where
  pub a : IsConfigured phases p.a
  pub b : IsConfigured phases p.b
  pub differ : p.a ≢ p.b

-- a kind of channel that floors and interval rules may name
abbrev pub IsTimed : Kind → Type 0
IsTimed Phase = Unit {0}
IsTimed Ped = Unit {0}
IsTimed Overlap = Unit {0}
IsTimed PreemptService = Unit {0}
IsTimed _ = ⊥

abbrev pub IsBound : AgeBound → Type 0
IsBound Any = ⊥
IsBound (AtLeast n) = IsBetween 1 36000 n
IsBound (AtMost n) = IsBetween 1 36000 n

-- an interval rule is about a colour of a channel among the specs
pub record IsIntervalOf (specs : List Spec) (r : IntervalItem) : Type 0 where
  pub spec : Spec
  pub there : slice_get specs r.spec ≡ Some spec
  pub timed : IsTimed spec.channel.kind
  pub colour : r.colour < length (table_of spec.channel.kind).names
  pub bound : IsBound r.bound

-- an approach is served by a configured phase
pub record IsApproach (phases : List PhaseItem) (a : Approach) : Type 0 where
  pub name : is_short_text is_name_byte a.name ≡ true
  pub phase : IsConfigured phases a.phase
  pub advance : IfSome a.advance (IsBetween 1 128)
  pub stop_bar : IfSome a.stop_bar (IsBetween 1 128)
  pub travel : a.travel ≤ 300
  pub no_travel : a.advance ≡ None → a.travel ≡ 0
  pub some : 1 ≤ a.high.num
  pub share : a.high.num ≤ a.high.den
  pub few : a.high.den ≤ 1000

-- the order of specs: by kind, and within a kind by number
abbrev pub IsBefore : Channel → Channel → Type 0
IsBefore a b = (spec_rank a.kind < spec_rank b.kind) ⊎ ((a.kind ≡ b.kind) × (a.number < b.number))

pub record IsSound (c : Settings) : Type 0 where
  pub signal : is_signal c.signal ≡ true
  pub phases : All IsPhase c.phases
  pub distinct_phases : AllPairs (λ p q. p.number ≢ q.number) c.phases
  pub few_phases : length c.phases ≤ 16
  pub peds : All (IsConfigured c.phases) c.peds
  pub distinct_peds : AllPairs (λ p q. p ≢ q) c.peds
  pub overlaps : All (IsOverlap c.phases) c.overlaps
  pub distinct_overlaps : AllPairs (λ o q. o.number ≢ q.number) c.overlaps
  pub preempts : All (IsBetween 1 16) c.preempts
  pub distinct_preempts : AllPairs (λ p q. p ≢ q) c.preempts
  pub conflicts : All (IsPairOf c.phases) c.conflicts
  pub allows : All (IsPairOf c.phases) c.allows
  pub apart : All (λ p. has_pair c.conflicts p.a p.b ≡ false) c.allows
  pub specs : All IsSpec c.specs
  pub few_specs : length c.specs ≤ 225
  pub ordered : AllPairs (λ s t. IsBefore s.channel t.channel) c.specs
  pub tracked : (channel : Channel) → is_some (spec_place c.specs channel) ≡ is_tracked c channel
  pub intervals : All (IsIntervalOf c.specs) c.intervals
  pub few_intervals : length c.intervals ≤ 256
  pub approaches : All (IsApproach c.phases) c.approaches
  pub distinct_names : AllPairs (λ a b. a.name ≢ b.name) c.approaches
  pub few_approaches : length c.approaches ≤ 64
