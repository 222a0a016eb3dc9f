-- The states of all channels at the end of a tenth.
use Rattle.std.specs.Prelude.{◌≡◌, ◌≢◌, ◌⊎◌, ℕ, ◌+◌, ◌-◌, ◌<◌, ◌≤◌, ◌↔◌, IsTrue, ℤ, Bool, Option, List, [], ◌∷◌, length, take, drop, slice_index_or}
use Rattle.colour_machine.specs.Mask.{Has}
use Rattle.span_set.specs.declared.set.Span.{Span}
use Rattle.reach.specs.Runs.{State}
use Rattle.reach.specs.Past.{Holds}
use Rattle.reach.specs.Ahead.{Admits}
use Rattle.board.specs.declared.clause.Term.{Term}
use Rattle.sig_base.specs.declared.values.Verdict.{Verdict}
use Rattle.sig_base.specs.declared.values.Verdict.TheVariants.{Idle, Kept, Broken, Undecided}
use Rattle.gap_map.specs.Stretches.{known_at}
use Rattle.board.specs.History.{Agreeing, Agrees, Event, History, IsLegal, Track, events_at, start_of}
use Rattle.board.specs.Channels.{track}
use Rattle.board.specs.Places.{IsAtPlace}
use Rattle.board.specs.Logs.{HourLog, first_tenth, end_tenth, no_spec, no_row}
use Rattle.reach.specs.Tests.{Meets}
use Rattle.reach.specs.declared.seen.Test.{Test}
use Rattle.reach.specs.declared.seen.Seen.{Seen}

-- the state at the end of tenth x of a run of the channel that agrees, begins in a state that is held and ends in one that is admitted
abbrev pub IsAtEnd : Track → (ℕ → Bool) → (ℕ → List Event) → ℕ → ℕ → ℕ → List (List Span) → List (Option ℤ) → State → Type 0
IsAtEnd k known given f x t before after v = ((s : State) × Holds before s × Agreeing k known given f (x + 1) s v) × ((u : State) × Agreeing k known given (x + 1) t v u × Admits after u)

-- in the history the channel's run begins in a state that is held, comes to state v at the end of tenth x, and ends in a state that is admitted
abbrev pub PassesState : Track → ℕ → ℕ → List (List Span) → List (Option ℤ) → State → List (List Event) → State → Type 0
PassesState k f x before after s events v = Holds before s × IsLegal k f (take (x + 1 - f) events) s v × ((u : State) × IsLegal k (x + 1) (drop (x + 1 - f) events) v u × Admits after u)

-- some history of the tenths from f up to t agrees, and its first n channels come to these states at the end of tenth x, from states that are held to states that are admitted
abbrev pub ArePassed : ℕ → (ℕ → Track) → (ℕ → Bool) → (ℕ → List Event) → ℕ → ℕ → ℕ → (ℕ → List (List Span)) → (ℕ → List (Option ℤ)) → (ℕ → State) → Type 0
ArePassed n tracks known given f x t before after v = (h : History) × Agrees n tracks known given f h × (f + length h.events ≡ t) × ((i : ℕ) → i < n → PassesState (tracks i) f x (before i) (after i) (start_of h i) h.events (v i))

-- in these states, one of each channel, some term of the clause holds: its channel is in one of the term's colours
abbrev pub Keeps : List Term → (ℕ → State) → Type 0
Keeps [] v = ⊥
Keeps (c ∷ cs) v = Has c.colours (v c.spec).colour ⊎ Keeps cs v

-- some term of the clause is of the channel
abbrev pub HasSpec : ℕ → List Term → Type 0
HasSpec i [] = ⊥
HasSpec i (c ∷ cs) = (c.spec ≡ i) ⊎ HasSpec i cs

-- no term is of the channel
abbrev pub NotOf : ℕ → List Term → Type 0
NotOf i [] = Unit {0}
NotOf i (c ∷ cs) = (c.spec ≢ i) × NotOf i cs

-- each term is of one of the first n channels, and no two are of one
abbrev pub AreTerms : ℕ → List Term → Type 0
AreTerms n [] = Unit {0}
AreTerms n (c ∷ cs) = (c.spec < n) × NotOf c.spec cs × AreTerms n cs

-- some state that the term's channel may have is in its colours, or outside them
abbrev pub SomeIn : (ℕ → State → Type 0) → Term → Type 0
SomeIn A c = (z : State) × A c.spec z × Has c.colours z.colour

abbrev pub SomeNot : (ℕ → State → Type 0) → Term → Type 0
SomeNot A c = (z : State) × A c.spec z × (Has c.colours z.colour → ⊥)

-- whether there is one in them, and whether there is one outside
abbrev pub SeesTerm : (ℕ → State → Type 0) → Term → Seen → Type 0
SeesTerm A c seen = (IsTrue seen.some_true ↔ SomeIn A c) × (IsTrue seen.some_false ↔ SomeNot A c)

-- for each term some state that its channel may have is outside its colours
abbrev pub FailEach : (ℕ → State → Type 0) → List Term → Type 0
FailEach A [] = Unit {0}
FailEach A (c ∷ cs) = SomeNot A c × FailEach A cs

-- for some term one is in them
abbrev pub HoldOne : (ℕ → State → Type 0) → List Term → Type 0
HoldOne A [] = ⊥
HoldOne A (c ∷ cs) = SomeIn A c ⊎ HoldOne A cs

-- the verdict on a clause, by the states P that the channels may have together and by K of which the clause holds: kept in all, broken in none, or undecided
abbrev pub IsVerdict : Verdict → ((ℕ → State) → Type 0) → ((ℕ → State) → Type 0) → Type 0
IsVerdict Idle P K = ⊥
IsVerdict Kept P K = (v : ℕ → State) → P v → K v
IsVerdict Broken P K = (v : ℕ → State) → P v → K v → ⊥
IsVerdict Undecided P K = ((v : ℕ → State) × P v × K v) × ((v : ℕ → State) × P v × (K v → ⊥))

-- some history of the hour that agrees has these states at the end of tenth x
abbrev pub PassStates : HourLog → ℕ → (ℕ → State) → Type 0
PassStates log x v = ArePassed (length log.specs) (λ i. track (slice_index_or log.specs i no_spec)) (known_at log.stretches) (events_at log.rows) (first_tenth log.hour) x (end_tenth log.hour) (λ i. slice_index_or log.before i []) (λ i. slice_index_or log.after i []) v

-- the state that one channel may have there: that of a run of the hour that agrees
abbrev pub MayPass : HourLog → ℕ → ℕ → State → Type 0
MayPass log x i v = IsAtEnd (track (slice_index_or log.specs i no_spec)) (known_at log.stretches) (events_at log.rows) (first_tenth log.hour) x (end_tenth log.hour) (slice_index_or log.before i []) (slice_index_or log.after i []) v

-- whether the state of one of these runs meets the test at the end of tenth x, and whether that of one doesn't
pub record SeesEnd (log : HourLog) (x i : ℕ) (test : Test) (seen : Seen) : Type 0 where
  pub some_true : IsTrue seen.some_true ↔ ((v : State) × MayPass log x i v × Meets test v)
  pub some_false : IsTrue seen.some_false ↔ ((v : State) × MayPass log x i v × (Meets test v → ⊥))

-- the state that one channel may have before row n: that of a run of the hour that agrees
abbrev pub MayPassRow : HourLog → ℕ → ℕ → State → Type 0
MayPassRow log n i v = IsAtPlace (track (slice_index_or log.specs i no_spec)) log.rows log.stretches (first_tenth log.hour) (end_tenth log.hour) (slice_index_or log.before i []) (slice_index_or log.after i []) (slice_index_or log.rows n no_row).at n v

-- whether the state of one of these runs meets the test before row n, and whether that of one doesn't
pub record SeesRow (log : HourLog) (n i : ℕ) (test : Test) (seen : Seen) : Type 0 where
  pub some_true : IsTrue seen.some_true ↔ ((v : State) × MayPassRow log n i v × Meets test v)
  pub some_false : IsTrue seen.some_false ↔ ((v : State) × MayPassRow log n i v × (Meets test v → ⊥))

-- no two terms are of one channel
abbrev pub AreApart : List Term → Type 0
AreApart [] = Unit {0}
AreApart (c ∷ cs) = NotOf c.spec cs × AreApart cs

-- the terms of a clause: 1 to 9, and no two of one channel
abbrev pub AreClause : List Term → Type 0
AreClause terms = (1 ≤ length terms) × (length terms ≤ 9) × AreApart terms

-- each term is of one of the first n channels
abbrev pub AreWithin : ℕ → List Term → Type 0
AreWithin n [] = Unit {0}
AreWithin n (c ∷ cs) = (c.spec < n) × AreWithin n cs
