-- The first row after which a channel has no state.
use Rattle.std.specs.Prelude.{◌≡◌, ◌⊎◌, ℕ, ◌<◌, ◌≤◌, ◌↔◌, min, Option, Some, None, MatchOption, List, [], length, slice_index_or}
use Rattle.colour_machine.specs.Rules.{Rules}
use Rattle.span_set.specs.declared.set.Span.{Span}
use Rattle.reach.specs.Runs.{State}
use Rattle.reach.specs.Past.{Holds}
use Rattle.channel_path.specs.declared.moves.Move.{Move}
use Rattle.channel_path.specs.declared.moves.Move.TheVariants.{Letter, Gap}
use Rattle.channel_path.specs.Walks.{AfterMoves, StopsAt}
use Rattle.sig_base.specs.declared.values.Row.{Row}
use Rattle.gap_map.specs.declared.stretch.Stretch.{Stretch}
use Rattle.channel_tables.specs.declared.spec.Spec.{Spec}
use Rattle.board.specs.Channels.{track}
use Rattle.board.specs.Moves.{own}

-- the number of the row
abbrev pub number : Move → ℕ
number (Letter at l n) = n
number (Gap f t) = 0

-- no state is left after row n, and one before it
abbrev pub StopRow : Rules → List (List Span) → List Move → ℕ → Type 0
StopRow m sets xs n = (j : ℕ) × StopsAt m sets xs j × (number (slice_index_or xs j (Letter 0 0 0)) ≡ n)

abbrev pub IsEarlier : Option ℕ → Option ℕ → Option ℕ → Type 0
IsEarlier None b r = r ≡ b
IsEarlier (Some x) None r = r ≡ Some x
IsEarlier (Some x) (Some y) r = r ≡ Some (min x y)

-- the moves lead to some state
abbrev pub Survives : Rules → List (List Span) → List Move → Type 0
Survives m sets xs = (u : State) × AfterMoves m sets xs u

-- the new sets have the states after the moves, and some, or the row after which none is left
abbrev pub IsWalked : Rules → List (List Span) → List Move → List (List Span) → Option ℕ → Type 0
IsWalked m old xs new r = MatchOption r (((u : State) → Holds new u ↔ AfterMoves m old xs u) × Survives m old xs) (λ n. StopRow m old xs n)

-- the machine of the channel with this place
abbrev pub rules_at : List Spec → ℕ → Spec → Rules
rules_at specs i d = (track (slice_index_or specs i d)).rules

abbrev pub moves_at : List Spec → List Row → List Stretch → ℕ → Spec → List Move
moves_at specs rows ss i d = own (track (slice_index_or specs i d)) 0 rows ss

-- of the first n places all go on, or this is the least row at which one stops, and each of the others goes on or stops at a row
abbrev pub IsFirst : (ℕ → Type 0) → (ℕ → ℕ → Type 0) → ℕ → Option ℕ → Type 0
IsFirst GoesOn Stops n None = (i : ℕ) → i < n → GoesOn i
IsFirst GoesOn Stops n (Some x) = ((i : ℕ) × (i < n) × Stops i x) × ((i y : ℕ) → i < n → Stops i y → x ≤ y) × ((i : ℕ) → i < n → GoesOn i ⊎ ((y : ℕ) × Stops i y))

-- the channel with this place has a state after its moves
abbrev pub GoesOnAt : List Spec → List Row → List Stretch → List (List (List Span)) → Spec → ℕ → Type 0
GoesOnAt specs rows ss before d i = Survives (rules_at specs i d) (slice_index_or before i []) (moves_at specs rows ss i d)

-- it has none after row x, and one before it
abbrev pub StopsAtRow : List Spec → List Row → List Stretch → List (List (List Span)) → Spec → ℕ → ℕ → Type 0
StopsAtRow specs rows ss before d i x = StopRow (rules_at specs i d) (slice_index_or before i []) (moves_at specs rows ss i d) x

-- all of the first n channels go on, or this is the least row after which one of them has no state
abbrev pub IsFirstStop : List Spec → List Row → List Stretch → List (List (List Span)) → ℕ → Option ℕ → Type 0
IsFirstStop specs rows ss before n o = (d : Spec) → IsFirst (GoesOnAt specs rows ss before d) (StopsAtRow specs rows ss before d) n o

-- for each channel stands, colour by colour of its machine, a set of entries, and some state is in one
abbrev pub AreBefore : List Spec → List (List (List Span)) → Type 0
AreBefore specs before = (length before ≡ length specs) × ((i : ℕ) (d : Spec) → i < length specs → (length (slice_index_or before i []) ≡ (rules_at specs i d).colours) × ((s : State) × Holds (slice_index_or before i []) s))
