-- The nine tables of a configuration: what an entry of each says, with the numbers of the format.
use Rattle.std.specs.Prelude.{◌≡◌, ◌≢◌, ◌≤◌, ◌⊎◌, ◌↔◌, ◌+◌, ℕ, pos, List, [], ◌∷◌, ◌++◌, length, codes, decimal, Option, Some, None, All, AllPairs, Any, Contains, slice_get}
use Rattle.toml.specs.Data.{integer, string, array, Items, Members}
use Rattle.sig_base.specs.declared.values.PhaseItem.{PhaseItem}
use Rattle.sig_base.specs.declared.values.Frac.{Frac}
use Rattle.event_codes.specs.declared.channels.Kind.{Kind}
use Rattle.event_codes.specs.declared.channels.Kind.TheVariants.{Phase, Ped, Overlap, PreemptService}
use Rattle.event_codes.specs.declared.channels.Channel.{Channel}
use Rattle.colour_machine.specs.Mask.{Has}
use Rattle.channel_tables.specs.Tables.{HasName}
use Rattle.reach.specs.declared.seen.AgeBound.{AgeBound}
use Rattle.reach.specs.declared.seen.AgeBound.TheVariants.{Any as AnyAge, AtLeast, AtMost}
use Rattle.ring_config.specs.declared.items.Pair.{Pair}
use Rattle.ring_config.specs.declared.items.OverlapItem.{OverlapItem}
use Rattle.ring_config.specs.declared.items.IntervalItem.{IntervalItem}
use Rattle.ring_config.specs.declared.items.Approach.{Approach}
use Rattle.ring_config.specs.Walk.{Rules}
use Rattle.ring_config.specs.Tables.{floor_rules}
use Rattle.config_laws.specs.Keys.{StandsAt, IsAbsent, HasOnly, HasNumber, MayHaveNumber, AreNumbers}

-- ---- phases, pedestrian signals, overlaps, preempts

-- an entry of `phase`: its number from 1 to 16, its ring from 1 to 4, its side of the barrier from 1 to 4
pub record IsPhaseEntry (ms : Members) (p : PhaseItem) : Type 0 where
  pub only : HasOnly (codes "number" ∷ codes "ring" ∷ codes "side" ∷ []) ms
  pub number : HasNumber 1 16 (codes "number") ms p.number
  pub ring : HasNumber 1 4 (codes "ring") ms p.ring
  pub side : HasNumber 1 4 (codes "side") ms p.side

-- one of the phases has this number
abbrev pub IsConfigured : List PhaseItem → ℕ → Type 0
IsConfigured phases n = Any (λ p. p.number ≡ n) phases

-- the number of a configured phase stands at the key
pub record HasPhase (phases : List PhaseItem) (key : List ℕ) (ms : Members) (n : ℕ) : Type 0 where
  pub there : StandsAt key ms (integer (pos n))
  pub configured : IsConfigured phases n

-- an entry of `ped`: the number of a configured phase
pub record IsPedEntry (phases : List PhaseItem) (ms : Members) (n : ℕ) : Type 0 where
  pub only : HasOnly (codes "number" ∷ []) ms
  pub number : HasPhase phases (codes "number") ms n

-- the parents of an overlap: an array of 1 to 8 different configured phases, and the mask of exactly these, with bit b for phase b + 1
pub record HasParents (phases : List PhaseItem) (ms : Members) (mask : ℕ) : Type 0 where
  pub items : Items
  pub there : StandsAt (codes "parents") ms (array items)
  pub numbers : List ℕ
  pub are : AreNumbers items numbers
  pub some : 1 ≤ length numbers
  pub few : length numbers ≤ 8
  pub configured : All (IsConfigured phases) numbers
  pub distinct : AllPairs (λ m n. m ≢ n) numbers
  pub bits : (b : ℕ) → Has mask b ↔ Contains numbers (b + 1)

-- an entry of `overlap`: its number from 1 to 16, and its parents
pub record IsOverlapEntry (phases : List PhaseItem) (ms : Members) (o : OverlapItem) : Type 0 where
  pub only : HasOnly (codes "number" ∷ codes "parents" ∷ []) ms
  pub number : HasNumber 1 16 (codes "number") ms o.number
  pub parents : HasParents phases ms o.parents

-- an entry of `preempt`: its number from 1 to 16
pub record IsPreemptEntry (ms : Members) (n : ℕ) : Type 0 where
  pub only : HasOnly (codes "number" ∷ []) ms
  pub number : HasNumber 1 16 (codes "number") ms n

-- ---- pairs of phases

-- two pairs are of the same phases, in either order
abbrev pub IsSamePair : Pair → Pair → Type 0
IsSamePair p q = ((p.a ≡ q.a) × (p.b ≡ q.b)) ⊎ ((p.a ≡ q.b) × (p.b ≡ q.a))

-- an entry of `conflict`: two configured phases that differ
pub record IsConflictEntry (phases : List PhaseItem) (ms : Members) (p : Pair) : Type 0 where
  pub only : HasOnly (codes "a" ∷ codes "b" ∷ []) ms
  pub a : HasPhase phases (codes "a") ms p.a
  pub b : HasPhase phases (codes "b") ms p.b
  pub differ : p.a ≢ p.b

-- an entry of `allow`: two configured phases that differ and aren't in conflict
pub record IsAllowEntry (phases : List PhaseItem) (conflicts : List Pair) (ms : Members) (p : Pair) : Type 0 where
  pub pair : IsConflictEntry phases ms p
  pub allowed : All (λ q. ¬ IsSamePair q p) conflicts

-- ---- floors and intervals

-- the text names the channel of this kind and number: its word, one space and its number
abbrev pub IsNameOf : Kind → ℕ → List ℕ → Type 0
IsNameOf Phase n text = text ≡ codes "phase " ++ decimal n
IsNameOf Ped n text = text ≡ codes "ped " ++ decimal n
IsNameOf Overlap n text = text ≡ codes "overlap " ++ decimal n
IsNameOf PreemptService n text = text ≡ codes "preempt " ++ decimal n
IsNameOf _ n text = ⊥

-- the name of a channel of this kind stands at `channel`, and this is its place among the channels
pub record HasChannel (channels : List Channel) (ms : Members) (kind : Kind) (spec : ℕ) : Type 0 where
  pub text : List ℕ
  pub there : StandsAt (codes "channel") ms (string text)
  pub number : ℕ
  pub named : IsNameOf kind number text
  pub found : slice_get channels spec ≡ Some (record { kind = kind; number = number })

-- the name of this colour of such a channel stands at `colour`
pub record HasColour (kind : Kind) (ms : Members) (colour : ℕ) : Type 0 where
  pub text : List ℕ
  pub there : StandsAt (codes "colour") ms (string text)
  pub named : HasName kind colour text

-- what the entries of a table say
abbrev pub Item : {X : Type 0} → Rules X → Type 0
Item {X} rules = X

-- a floor: the place of its channel, its colour and its tenths
abbrev pub Floor : Type 0
Floor = Item (floor_rules [])

-- an entry of `floor`: a channel, one of its colours, and 0 to 36,000 tenths
pub record IsFloorEntry (channels : List Channel) (ms : Members) (f : Floor) : Type 0 where
  pub only : HasOnly (codes "channel" ∷ codes "colour" ∷ codes "tenths" ∷ []) ms
  pub kind : Kind
  pub channel : HasChannel channels ms kind f.spec
  pub colour : HasColour kind ms f.colour
  pub tenths : HasNumber 0 36000 (codes "tenths") ms f.tenths

-- two floors are of the same colour of the same channel
abbrev pub IsSameColour : Floor → Floor → Type 0
IsSameColour f g = (f.spec ≡ g.spec) × (f.colour ≡ g.colour)

-- exactly one of `at_least` and `at_most` is there, of 1 to 36,000 tenths
abbrev pub HasBound : Members → AgeBound → Type 0
HasBound ms AnyAge = ⊥
HasBound ms (AtLeast n) = HasNumber 1 36000 (codes "at_least") ms n × IsAbsent (codes "at_most") ms
HasBound ms (AtMost n) = HasNumber 1 36000 (codes "at_most") ms n × IsAbsent (codes "at_least") ms

-- an entry of `interval`: a channel, one of its colours, and a bound
pub record IsIntervalEntry (channels : List Channel) (ms : Members) (r : IntervalItem) : Type 0 where
  pub only : HasOnly (codes "channel" ∷ codes "colour" ∷ codes "at_least" ∷ codes "at_most" ∷ []) ms
  pub kind : Kind
  pub channel : HasChannel channels ms kind r.spec
  pub colour : HasColour kind ms r.colour
  pub bound : HasBound ms r.bound

-- ---- approaches

-- a letter, a digit, `_` or `-`
abbrev pub name_bytes : List ℕ
name_bytes = codes "ABCDEFGHIJKLMNOPQRSTUVWXYZabcdefghijklmnopqrstuvwxyz0123456789_-"

-- a text of 1 to 32 of these stands at `name`
pub record HasApproachName (ms : Members) (name : List ℕ) : Type 0 where
  pub there : StandsAt (codes "name") ms (string name)
  pub some : 1 ≤ length name
  pub few : length name ≤ 32
  pub each : All (Contains name_bytes) name

-- the tenths from the advance detector to the stop bar, 0 to 300; 0 where nothing says so, and without that detector nothing does
abbrev pub HasTravel : Members → Option ℕ → ℕ → Type 0
HasTravel ms None n = IsAbsent (codes "travel") ms × (n ≡ 0)
HasTravel ms (Some d) n = HasNumber 0 300 (codes "travel") ms n ⊎ (IsAbsent (codes "travel") ms × (n ≡ 0))

-- both numbers of a share are there, from 1 to 1,000 and the first not over the second
pub record HasShare (ms : Members) (f : Frac) : Type 0 where
  pub num : HasNumber 1 1000 (codes "high_num") ms f.num
  pub den : HasNumber 1 1000 (codes "high_den") ms f.den
  pub most : f.num ≤ f.den

-- neither number of a share is there, and it is 4/5
pub record HasNoShare (ms : Members) (f : Frac) : Type 0 where
  pub num : IsAbsent (codes "high_num") ms
  pub den : IsAbsent (codes "high_den") ms
  pub four : f.num ≡ 4
  pub five : f.den ≡ 5

-- an entry of `approach`: its name, a configured phase, its detectors from 1 to 128, each of which may be left out, the travel time between them, and a share
pub record IsApproachEntry (phases : List PhaseItem) (ms : Members) (a : Approach) : Type 0 where
  pub only : HasOnly (codes "name" ∷ codes "phase" ∷ codes "advance" ∷ codes "stop_bar" ∷ codes "travel" ∷ codes "high_num" ∷ codes "high_den" ∷ []) ms
  pub name : HasApproachName ms a.name
  pub phase : HasPhase phases (codes "phase") ms a.phase
  pub advance : MayHaveNumber 1 128 (codes "advance") ms a.advance
  pub stop_bar : MayHaveNumber 1 128 (codes "stop_bar") ms a.stop_bar
  pub travel : HasTravel ms a.advance a.travel
  pub high : HasShare ms a.high ⊎ HasNoShare ms a.high
