-- What is kept for the places of a path: Pasts for its runs of gaps, and Aheads with their numbers.
use Rattle.std.specs.Prelude.{◌≡◌, ℕ, ℤ, ◌+◌, ◌-◌, ◌<◌, ◌≤◌, ◌↔◌, List, [], ◌∷◌, ◌++◌, length, take, drop, Option, slice_index_or}
use Rattle.colour_machine.specs.Rules.{Rules}
use Rattle.span_set.specs.declared.set.Span.{Span}
use Rattle.reach.specs.Runs.{State}
use Rattle.reach.specs.Past.{Holds}
use Rattle.reach.specs.Ahead.{Admits}
use Rattle.channel_path.specs.declared.moves.Move.{Move}
use Rattle.channel_path.specs.declared.moves.Move.TheVariants.{Letter, Gap}
use Rattle.channel_path.specs.declared.past.RunPasts.{RunPasts}
use Rattle.channel_path.specs.declared.ahead.PlaceAheads.{PlaceAheads}
use Rattle.channel_path.specs.Walks.{InOrder, AfterMoves, BeforeMoves, EnteredBefore}
use Rattle.channel_path.specs.Places.{EntersBefore}

-- how many of the moves are letters
abbrev pub letters : List Move → ℕ
letters [] = 0
letters (Letter at l r ∷ xs) = letters xs + 1
letters (Gap f t ∷ xs) = letters xs

-- the number of each place's run is how many letters are before the place
abbrev pub AreRuns : List Move → List ℕ → Type 0
AreRuns xs runs = (length runs ≡ length xs + 1) × ((j : ℕ) → j ≤ length xs → slice_index_or runs j 0 ≡ letters (take j xs))

-- a letter adds the Past before it to those that are kept, a gap adds none
abbrev pub kept_before : Move → List (List (List Span)) → List (List Span) → List (List (List Span))
kept_before (Letter at l r) pasts past = pasts ++ past ∷ []
kept_before (Gap f t) pasts past = pasts

-- the place's run has a Past
abbrev pub HasPast : RunPasts → ℕ → Type 0
HasPast pasts j = slice_index_or pasts.runs.items j 0 < length pasts.pasts.items

-- the Past of the place's run
abbrev pub past_of : RunPasts → ℕ → List (List Span)
past_of pasts j = slice_index_or pasts.pasts.items (slice_index_or pasts.runs.items j 0) []

-- the place has got a number, which is that of an Ahead
abbrev pub HasAhead : PlaceAheads → ℕ → Type 0
HasAhead aheads j = (j < length aheads.numbers.items) × (slice_index_or aheads.numbers.items (length aheads.numbers.items - 1 - j) 0 < length aheads.aheads.items)

-- the Ahead with the place's number; the last number is that of the first place
abbrev pub ahead_of : PlaceAheads → ℕ → List (Option ℤ)
ahead_of aheads j = slice_index_or aheads.aheads.items (slice_index_or aheads.numbers.items (length aheads.numbers.items - 1 - j) 0) []

-- of the states that enter early enough for the move after the first j, the Past holds exactly those after the first j
abbrev pub IsPast : Rules → List (List Span) → List Move → ℕ → List (List Span) → Type 0
IsPast m before xs j past = (length past ≡ m.colours) × ((u : State) → EntersBefore (drop j xs) u → Holds past u ↔ AfterMoves m before (take j xs) u)

-- each place's run has a Past, which is one of that place
abbrev pub ArePasts : Rules → List (List Span) → List Move → RunPasts → Type 0
ArePasts m before xs pasts = (j : ℕ) → j ≤ length xs → HasPast pasts j × IsPast m before xs j (past_of pasts j)

-- the Pasts are those of the places' runs, from some states before the moves
abbrev pub HavePasts : Rules → List Move → RunPasts → Type 0
HavePasts m xs pasts = AreRuns xs pasts.runs.items × ((before : List (List Span)) × ((low : ℕ) × EnteredBefore before low × InOrder m low xs) × ArePasts m before xs pasts)

-- there is a first Ahead, and each is of so many colours
abbrev pub HaveAheads : ℕ → List (List (Option ℤ)) → Type 0
HaveAheads colours aheads = (0 < length aheads) × ((i : ℕ) → i < length aheads → length (slice_index_or aheads i []) ≡ colours)

-- the second has those of the first, and maybe more after them
abbrev pub AreMore : List (List (Option ℤ)) → List (List (Option ℤ)) → Type 0
AreMore old new = (length old ≤ length new) × ((i : ℕ) → i < length old → slice_index_or new i [] ≡ slice_index_or old i [])

-- of the states of the Past the two Aheads admit the same
abbrev pub AdmitSame : List (List Span) → List (Option ℤ) → List (Option ℤ) → Type 0
AdmitSame past a b = (length a ≡ length b) × ((s : State) → Holds past s → Admits a s ↔ Admits b s)

-- of the states that enter early enough for the moves, the Ahead admits those from which they lead to what is admitted after them
abbrev pub IsAhead : Rules → List (Option ℤ) → List Move → List (Option ℤ) → Type 0
IsAhead m after xs ahead = (length ahead ≡ m.colours) × ((s : State) → EntersBefore xs s → Admits ahead s ↔ BeforeMoves m after xs s)

-- the same of the states of the place's Past
abbrev pub Serves : Rules → List (Option ℤ) → List Move → RunPasts → ℕ → List (Option ℤ) → Type 0
Serves m after xs pasts j ahead = (length ahead ≡ m.colours) × ((s : State) → EntersBefore (drop j xs) s → Holds (past_of pasts j) s → Admits ahead s ↔ BeforeMoves m after (drop j xs) s)

-- the same of the states of the Past, where the Ahead is the one with the number
abbrev pub StandsFor : Rules → List (Option ℤ) → List Move → List (List Span) → List (List (Option ℤ)) → ℕ → Type 0
StandsFor m after xs past aheads n = (n < length aheads) × (length (slice_index_or aheads n []) ≡ m.colours) × ((s : State) → EntersBefore xs s → Holds past s → Admits (slice_index_or aheads n []) s ↔ BeforeMoves m after xs s)

-- each place from p on has the number of an Ahead that stands for its own; the first number is that of the place after the last move
abbrev pub AreStandIns : Rules → List (Option ℤ) → List Move → RunPasts → ℕ → PlaceAheads → Type 0
AreStandIns m after xs pasts p places = (j k : ℕ) → p ≤ j → j + k ≡ length xs → StandsFor m after (drop j xs) (past_of pasts j) places.aheads.items (slice_index_or places.numbers.items k 0)

-- the places from b back to that after a have got numbers, each of an Ahead that admits of the Past's states those that go on from the place
pub record AddsPlaces (colours : ℕ) (past : List (List Span)) (a b : ℕ) (goes_on : ℕ → State → Type 0) (old new : PlaceAheads) : Type 0 where
  pub fresh : List ℕ
  pub added : new.numbers.items ≡ old.numbers.items ++ fresh
  pub size : length fresh + a ≡ b
  pub more : AreMore old.aheads.items new.aheads.items
  pub all : HaveAheads colours new.aheads.items
  pub stand : (j k : ℕ) → a < j → j + k ≡ b → (slice_index_or fresh k 0 < length new.aheads.items) × ((s : State) → Holds past s → Admits (slice_index_or new.aheads.items (slice_index_or fresh k 0) []) s ↔ goes_on j s)
