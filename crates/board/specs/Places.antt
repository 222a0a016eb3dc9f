-- Places of an hour, and the runs that pass them.
use Rattle.std.specs.Prelude.{◌≡◌, ℕ, ◌+◌, ◌<◌, ◌≤◌, ℤ, pos, ◌≤ℤ◌, ◌<ℤ◌, ◌↔◌, true, nat_lt, if◌then◌else◌, IsTrue, Option, Some, None, List, [], ◌∷◌, length, take, drop, slice_index_or}
use Rattle.span_set.specs.declared.set.Span.{Span}
use Rattle.reach.specs.Runs.{State, Steps}
use Rattle.reach.specs.Past.{Holds}
use Rattle.reach.specs.Ahead.{Admits}
use Rattle.reach.specs.Tests.{Meets}
use Rattle.reach.specs.declared.seen.Test.{Test}
use Rattle.reach.specs.declared.seen.Seen.{Seen}
use Rattle.channel_path.specs.declared.moves.Move.{Move}
use Rattle.channel_path.specs.declared.moves.Move.TheVariants.{Letter, Gap}
use Rattle.channel_path.specs.Places.{PathLog}
use Rattle.channel_tables.specs.declared.any.AnyMachine.{AnyMachine}
use Rattle.channel_tables.specs.Any.{any_rules}
use Rattle.sig_base.specs.declared.values.Row.{Row}
use Rattle.gap_map.specs.declared.stretch.Stretch.{Stretch}
use Rattle.channel_tables.specs.declared.spec.Spec.{Spec}
use Rattle.gap_map.specs.Stretches.{FollowOn, known_at}
use Rattle.board.specs.History.{Agreeing, Track, events_at, letters}
use Rattle.board.specs.Channels.{AreSpecs}
use Rattle.board.specs.Moves.{RowsIn}
use Rattle.board.specs.Stops.{moves_at, rules_at}
use Rattle.board.specs.Logs.{IsHour, HourLog, first_tenth, no_row, no_spec}

-- the stretches up to tenth x, that tenth with them
abbrev pub upto : ℕ → List Stretch → List Stretch
upto x [] = []
upto x (s ∷ ss) = if nat_lt x s.to then record { from = s.from; to = x + 1; known = s.known } ∷ [] else s ∷ upto x ss

-- the stretches from tenth x on
abbrev pub since : ℕ → List Stretch → List Stretch
since x [] = []
since x (s ∷ ss) = if nat_lt x s.to then record { from = x; to = s.to; known = s.known } ∷ ss else since x ss

-- For contracts alone: the stretch is known, and is what the stretches are from its first tenth on
abbrev pub IsEndOf : List Stretch → Stretch → Type 0
IsEndOf ss s = (f t : ℕ) → FollowOn f t ss → (f ≤ s.from) × (s.from < t) × (known_at ss s.from ≡ true) × (since s.from ss ≡ s ∷ [])

-- a known tenth x of the hour, between the first i rows and the others
pub record IsPlace (f t : ℕ) (rows : List Row) (ss : List Stretch) (x i : ℕ) : Type 0 where
  pub stretches : FollowOn f t ss
  pub rows_in : RowsIn f t rows
  pub first : f ≤ x
  pub last : x < t
  pub is_known : known_at ss x ≡ true
  pub count : i ≤ length rows
  pub before : RowsIn f (x + 1) (take i rows)
  pub after : RowsIn x t (drop i rows)

-- a run that agrees leads from state s to state v at the place: over the tenths before x, and then over the letters of the rows of x before the place
abbrev pub ToPlace : Track → List Row → List Stretch → ℕ → ℕ → ℕ → State → State → Type 0
ToPlace k rows ss f x i s v = (a : State) × Agreeing k (known_at ss) (events_at rows) f x s a × Steps k.rules (pos x) a (letters k (events_at (take i rows) x)) v

-- one leads on from it, over the letters of the other rows of x and the tenths after x
abbrev pub FromPlace : Track → List Row → List Stretch → ℕ → ℕ → ℕ → State → State → Type 0
FromPlace k rows ss x t i v u = (b : State) × Steps k.rules (pos x) v (letters k (events_at (drop i rows) x)) b × Agreeing k (known_at ss) (events_at rows) (x + 1) t b u

-- the state at the place of a run that agrees, begins in a state that is held and ends in one that is admitted
abbrev pub IsAtPlace : Track → List Row → List Stretch → ℕ → ℕ → List (List Span) → List (Option ℤ) → ℕ → ℕ → State → Type 0
IsAtPlace k rows ss f t before after x i v = ((s : State) × Holds before s × ToPlace k rows ss f x i s v) × ((u : State) × FromPlace k rows ss x t i v u × Admits after u)

-- whether the state of one of these runs meets the test there, and whether that of one doesn't
pub record SeesAt (k : Track) (rows : List Row) (ss : List Stretch) (f t : ℕ) (before : List (List Span)) (after : List (Option ℤ)) (x i : ℕ) (test : Test) (seen : Seen) : Type 0 where
  pub some_true : IsTrue seen.some_true ↔ ((v : State) × IsAtPlace k rows ss f t before after x i v × Meets test v)
  pub some_false : IsTrue seen.some_false ↔ ((v : State) × IsAtPlace k rows ss f t before after x i v × (Meets test v → ⊥))

-- the move comes before the place, which is before the row with the number, or at the tenth's end
abbrev pub IsBefore : ℤ → Option ℕ → Move → Type 0
IsBefore at (Some i) (Letter a l n) = n < i
IsBefore at None (Letter a l n) = pos a ≤ℤ at
IsBefore at o (Gap f t) = pos f <ℤ at

-- the first j moves come before the place, and no other
abbrev pub IsSplit : ℤ → Option ℕ → List Move → ℕ → Type 0
IsSplit at o xs j = (j ≤ length xs) × ((k : ℕ) → k < j → IsBefore at o (slice_index_or xs k (Letter 0 0 0))) × ((k : ℕ) → j ≤ k → k < length xs → IsBefore at o (slice_index_or xs k (Letter 0 0 0)) → ⊥)

-- no entry is later than the tenth before f
abbrev pub AllEarly : ℕ → List (List (List Span)) → Type 0
AllEarly f before = (i : ℕ) (s : State) → Holds (slice_index_or before i []) s → s.entry <ℤ pos f

-- the specs may be followed together, the rows and the stretches are the hour's, and the states before it were entered before it
pub record IsLog (log : HourLog) : Type 0 where
  pub are_specs : AreSpecs log.specs
  pub is_hour : IsHour log.hour log.rows log.stretches
  pub early : AllEarly (first_tenth log.hour) log.before

-- the view is of this hour, which keeps the laws of a log
pub record IsViewOf (log view : HourLog) : Type 0 where
  pub same : view ≡ log
  pub is_log : IsLog log

-- the path is that of one channel of the hour
pub record IsPathOf (log : HourLog) (i : ℕ) (d : Spec) (path : PathLog AnyMachine) : Type 0 where
  pub same_rules : any_rules path.machine ≡ rules_at log.specs i d
  pub same_before : path.before ≡ slice_index_or log.before i []
  pub same_moves : path.moves ≡ moves_at log.specs log.rows log.stretches i d
  pub same_after : path.after ≡ slice_index_or log.after i []

-- the paths of the first n channels
abbrev pub ArePaths : HourLog → ℕ → List (PathLog AnyMachine) → Type 0
ArePaths log n paths = (i : ℕ) (d : Spec) (e : PathLog AnyMachine) → i < n → IsPathOf log i d (slice_index_or paths i e)

-- a path for each channel of the hour
pub record IsView (log : HourLog) (paths : List (PathLog AnyMachine)) : Type 0 where
  pub is_log : IsLog log
  pub count : length paths ≡ length log.specs
  pub are_paths : ArePaths log (length log.specs) paths

-- a channel has equally many colours and the same states in both
abbrev pub HaveSameStates : List (List Span) → List (List Span) → Type 0
HaveSameStates a b = (length a ≡ length b) × ((s : State) → Holds a s ↔ Holds b s)

-- both have equally many channels, and each the same states in both
abbrev pub AreSamePasts : List (List (List Span)) → List (List (List Span)) → Type 0
AreSamePasts a b = (length a ≡ length b) × ((i : ℕ) → i < length a → HaveSameStates (slice_index_or a i []) (slice_index_or b i []))

-- for each channel stands, colour by colour of its machine, a latest entry or none
abbrev pub AreAheadsOf : List Spec → List (List (Option ℤ)) → Type 0
AreAheadsOf specs after = (length after ≡ length specs) × ((i : ℕ) (d : Spec) → i < length specs → length (slice_index_or after i []) ≡ (rules_at specs i d).colours)

-- some run that agrees leads from a state that is held to the state at the place
abbrev pub IsReachedAt : Track → List Row → List Stretch → ℕ → List (List Span) → ℕ → ℕ → State → Type 0
IsReachedAt k rows ss f before x i v = (s : State) × Holds before s × ToPlace k rows ss f x i s v

-- row n is known and the channel's, some run that agrees leads to the place before it, and none to the one after it
pub record IsStop (k : Track) (rows : List Row) (ss : List Stretch) (f : ℕ) (before : List (List Span)) (n : ℕ) : Type 0 where
  pub within : n < length rows
  pub is_known : known_at ss (slice_index_or rows n no_row).at ≡ true
  pub letter : (l : ℕ) × (k.letter (slice_index_or rows n no_row).code (slice_index_or rows n no_row).param ≡ Some l)
  pub some : (u : State) × IsReachedAt k rows ss f before (slice_index_or rows n no_row).at n u
  pub none : (u : State) → IsReachedAt k rows ss f before (slice_index_or rows n no_row).at (n + 1) u → ⊥

-- of each state that is held, and of those of its colour that were entered earlier, both admit the same
abbrev pub SameFor : List (List Span) → List (Option ℤ) → List (Option ℤ) → Type 0
SameFor past a b = (s u : State) → Holds past u → s.colour ≡ u.colour → s.entry ≤ℤ u.entry → Admits a s ↔ Admits b s

-- the same of each channel
abbrev pub AreSameFor : List (List (List Span)) → List (List (Option ℤ)) → List (List (Option ℤ)) → Type 0
AreSameFor pasts a b = (i : ℕ) → i < length a → SameFor (slice_index_or pasts i []) (slice_index_or a i []) (slice_index_or b i [])

-- a place of the channel: so many moves come before it, which are those before row n where some number of them are
pub record IsRowPlace (log : HourLog) (at : ℤ) (n i place : ℕ) : Type 0 where
  pub within : place ≤ length (moves_at log.specs log.rows log.stretches i no_spec)
  pub before : (j : ℕ) → IsSplit at (Some n) (moves_at log.specs log.rows log.stretches i no_spec) j → place ≡ j
