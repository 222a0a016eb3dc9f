-- The states of all channels after an hour.
use Rattle.std.specs.Prelude.{◌≡◌, ℕ, ◌<◌, ◌↔◌, ◌⊎◌, ℤ, pos, negsuc, ◌-ℤ◌, ◌≤ℤ◌, ◌<ℤ◌, Bool, false, Option, Some, None, List, [], length, slice_index_or}
use Rattle.span_set.specs.declared.set.Span.{Span}
use Rattle.colour_machine.specs.Rules.{Rules}
use Rattle.reach.specs.Runs.{State, state}
use Rattle.reach.specs.Past.{Holds}
use Rattle.reach.specs.Ahead.{Admits}
use Rattle.channel_path.specs.declared.moves.Move.{Move}
use Rattle.channel_path.specs.Walks.{BeforeMoves}
use Rattle.channel_path.specs.Places.{EntersBefore}
use Rattle.sig_base.specs.declared.values.Row.{Row}
use Rattle.gap_map.specs.declared.stretch.Stretch.{Stretch}
use Rattle.channel_tables.specs.declared.spec.Spec.{Spec}
use Rattle.gap_map.specs.Stretches.{known_at}
use Rattle.board.specs.declared.pasts.PastsError.{PastsError}
use Rattle.board.specs.declared.pasts.PastsError.TheVariants.{NoState, Memory}
use Rattle.board.specs.History.{Agreeing, Track, events_at}
use Rattle.board.specs.Channels.{track}
use Rattle.board.specs.Stops.{IsFirst, moves_at, rules_at}
use Rattle.board.specs.Places.{IsStop}
use Rattle.board.specs.Logs.{IsHour, first_tenth, end_tenth, no_spec, no_row}

-- a run of the hour that agrees leads to the state from one that is held
abbrev pub IsAfterHour : Track → List Row → List Stretch → ℕ → ℕ → List (List Span) → State → Type 0
IsAfterHour k rows ss f t before u = (s : State) × Holds before s × Agreeing k (known_at ss) (events_at rows) f t s u

-- each channel has a state after the hour, or this is the first known row after which its channel has none
abbrev pub IsHourStop : List Spec → List Row → List Stretch → ℕ → ℕ → List (List (List Span)) → Option ℕ → Type 0
IsHourStop specs rows ss f t before stop = IsFirst (λ i. (u : State) × IsAfterHour (track (slice_index_or specs i no_spec)) rows ss f t (slice_index_or before i []) u) (λ i n. IsStop (track (slice_index_or specs i no_spec)) rows ss f (slice_index_or before i []) n) (length specs) stop

-- the state is one of these with an entry from the limit on, or one of these had an earlier entry, which has become the limit
abbrev pub Clamped : ℤ → (State → Type 0) → State → Type 0
Clamped limit P u = (P u × (limit ≤ℤ u.entry)) ⊎ ((u.entry ≡ limit) × ((e : ℤ) × P (state u.colour e) × (e <ℤ limit)))

-- each Past has the states after the hour, clamped at the point after it
abbrev pub AreClampedPasts : List Spec → List Row → List Stretch → ℕ → ℕ → List (List (List Span)) → List (List (List Span)) → Type 0
AreClampedPasts specs rows ss f t before pasts = (i : ℕ) → i < length specs → (u : State) → Holds (slice_index_or pasts i []) u ↔ Clamped (pos t -ℤ pos 36001) (IsAfterHour (track (slice_index_or specs i no_spec)) rows ss f t (slice_index_or before i [])) u

-- a run of the hour that agrees leads from the state to one that is admitted
abbrev pub IsBeforeHour : Track → List Row → List Stretch → ℕ → ℕ → List (Option ℤ) → State → Type 0
IsBeforeHour k rows ss f t after s = (u : State) × Agreeing k (known_at ss) (events_at rows) f t s u × Admits after u

-- each Ahead of the first n has its machine's colours, and admits the states, entered before the hour, from which some run of the hour that agrees leads to one that was admitted
abbrev pub AreHourAheads : List Spec → List Row → List Stretch → ℕ → ℕ → List (List (Option ℤ)) → ℕ → List (List (Option ℤ)) → Type 0
AreHourAheads specs rows ss f t after n aheads = (i : ℕ) → i < n → (length (slice_index_or aheads i []) ≡ (rules_at specs i no_spec).colours) × ((s : State) → Admits (slice_index_or aheads i []) s ↔ ((s.entry <ℤ pos f) × IsBeforeHour (track (slice_index_or specs i no_spec)) rows ss f t (slice_index_or after i []) s))

-- no known row leaves its channel without a state, and these are the states after the hour, clamped at the point after it
abbrev pub ArePastsOf : List Spec → List Row → List Stretch → List (List (List Span)) → List (List (List Span)) → Type 0
ArePastsOf specs rows ss before pasts = (h : ℕ) → IsHour h rows ss → IsHourStop specs rows ss (first_tenth h) (end_tenth h) before None × AreClampedPasts specs rows ss (first_tenth h) (end_tenth h) before pasts

-- an error that isn't that memory ran out names the first known row after which its channel has no state
abbrev pub NamesStop : List Spec → List Row → List Stretch → List (List (List Span)) → PastsError → Type 0
NamesStop specs rows ss before (NoState row) = (n : ℕ) × (row ≡ slice_index_or rows n no_row) × ((h : ℕ) → IsHour h rows ss → IsHourStop specs rows ss (first_tenth h) (end_tenth h) before (Some n))
NamesStop specs rows ss before Memory = Unit {0}

-- each Ahead admits the states, entered before the hour, from which it can be completed
abbrev pub AreAheadsBefore : List Spec → List Row → List Stretch → List (List (Option ℤ)) → List (List (Option ℤ)) → Type 0
AreAheadsBefore specs rows ss after aheads = (h : ℕ) → IsHour h rows ss → AreHourAheads specs rows ss (first_tenth h) (end_tenth h) after (length specs) aheads

-- a state before the window: any colour, entered from tenth -36,001 to tenth -1
abbrev pub IsStart : Rules → State → Type 0
IsStart m s = (s.colour < m.colours) × (negsuc 36000 ≤ℤ s.entry) × (s.entry <ℤ pos 0)

-- each of the first n Pasts has these states
abbrev pub AreStarts : List Spec → ℕ → List (List (List Span)) → Type 0
AreStarts specs n pasts = (i : ℕ) → i < n → (s : State) → Holds (slice_index_or pasts i []) s ↔ IsStart (rules_at specs i no_spec) s

-- each of the first n Aheads admits every colour with every entry before the point
abbrev pub AreEnds : List Spec → ℤ → ℕ → List (List (Option ℤ)) → Type 0
AreEnds specs point n aheads = (i : ℕ) → i < n → (s : State) → Admits (slice_index_or aheads i []) s ↔ ((s.colour < (rules_at specs i no_spec).colours) × (s.entry <ℤ point))

-- ---- For contracts alone: what leads alike to two answers.

-- from the same states that were entered early enough, the moves lead to one that the first and to one that the second admits
abbrev pub AreAlike : Rules → List (Option ℤ) → List (Option ℤ) → List Move → Type 0
AreAlike m a b xs = (s : State) → EntersBefore xs s → BeforeMoves m a xs s ↔ BeforeMoves m b xs s

-- so do the hour's moves of each of the first n channels that isn't one of the others
abbrev pub AreAlikeBut : List Spec → List Row → List Stretch → List (List (Option ℤ)) → List (List (Option ℤ)) → List Bool → ℕ → Type 0
AreAlikeBut specs rows ss a b others n = (i : ℕ) (d : Spec) → i < n → slice_index_or others i false ≡ false → AreAlike (rules_at specs i d) (slice_index_or a i []) (slice_index_or b i []) (moves_at specs rows ss i d)
