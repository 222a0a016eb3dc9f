-- One channel's moves, of whose rows some were lost.
use Rattle.std.specs.Prelude.{◌≡◌, ℕ, ◌+◌, ◌<◌, ◌<ℤ◌, ℤ, pos, List, [], ◌∷◌, Option}
use Rattle.span_set.specs.declared.set.Span.{Span}
use Rattle.colour_machine.specs.Rules.{Rules}
use Rattle.reach.specs.Runs.{State}
use Rattle.reach.specs.Past.{Holds}
use Rattle.reach.specs.Ahead.{Admits}
use Rattle.reach.specs.declared.seen.AgeBound.TheVariants.{Any}
use Rattle.channel_path.specs.declared.moves.Move.{Move}
use Rattle.channel_path.specs.declared.moves.Move.TheVariants.{Letter, Gap}
use Rattle.channel_path.specs.Walks.{Taken, limit_before}
use Rattle.lost_rows.specs.declared.asked.Asked.{Asked}
use Rattle.lost_rows.specs.Stills.{LostRows}

-- the still after the move begins at this tenth: a row's own, since a row may be lost behind it in its tenth, or the end of a gap
abbrev pub still_after : Move → ℕ
still_after (Letter at l r) = at
still_after (Gap f t) = t

-- the still between what low leaves open and the move ends before limit_before: with a row's own tenth, since a row may be lost before it in its tenth, or before a gap
-- the moves, and j lost rows in the stills between them, before them from tenth a on and behind them up to tenth b, lead from state s to state u
abbrev pub LostWalk : Rules → Asked → ℕ → List Move → ℕ → ℕ → State → State → Type 0
LostWalk m r a [] b j s u = LostRows m r (pos a) (pos b) j s u
LostWalk m r a (x ∷ xs) b j s u = (i k : ℕ) × (i + k ≡ j) × ((v w : State) × LostRows m r (pos a) (pos (limit_before x)) i s v × Taken m x v w × LostWalk m r (still_after x) xs b k w u)

-- they lead to the state from one of the sets
abbrev pub AfterLostMoves : Rules → Asked → ℕ → List Move → ℕ → ℕ → List (List Span) → State → Type 0
AfterLostMoves m r a xs b j sets u = (s : State) × Holds sets s × LostWalk m r a xs b j s u

-- they lead from the state to one that is admitted
abbrev pub BeforeLostMoves : Rules → Asked → ℕ → List Move → ℕ → ℕ → List (Option ℤ) → State → Type 0
BeforeLostMoves m r a xs b j latest s = (u : State) × Admits latest u × LostWalk m r a xs b j s u

-- nothing is asked of lost rows: those of a clause's channels, and those that come after a line
abbrev pub nothing_asked : Asked
nothing_asked = record { colour = 0; bound = Any }

-- n lost rows explain a line at the end of the tenth, or before its row at that tenth: some runs over the moves before its place and those after it pass it in a state that keeps the rule, n rows were lost in their stills, and those before the place keep the rule
abbrev pub ExplainedBy : Rules → Asked → List (List Span) → List (Option ℤ) → ℕ → List Move → ℕ → List Move → ℕ → (State → Type 0) → ℕ → Type 0
ExplainedBy m r before after low xs at ys high Keeps n = (i k : ℕ) × (i + k ≡ n) × ((v : State) × AfterLostMoves m r low xs (at + 1) i before v × Keeps v × BeforeLostMoves m nothing_asked (at + 1) ys high k after v)

-- so many rows are needed: so many explain the line, and none fewer do
abbrev pub IsLeast : (ℕ → Type 0) → ℕ → Type 0
IsLeast P n = P n × ((k : ℕ) → k < n → P k → ⊥)

-- states by how many rows were lost before them; so many more lost in a still lead to the state
abbrev pub StillFrom : Rules → Asked → (ℕ → State → Type 0) → ℤ → ℤ → ℕ → State → Type 0
StillFrom m r P a b j u = (i k : ℕ) × (i + k ≡ j) × ((s : State) × P i s × LostRows m r a b k s u)

-- the moves and the stills between them lead to the state, of whose rows so many are lost in all
abbrev pub WalkedFrom : Rules → Asked → (ℕ → State → Type 0) → ℕ → List Move → ℕ → ℕ → State → Type 0
WalkedFrom m r P a xs b j u = (i k : ℕ) × (i + k ≡ j) × ((s : State) × P i s × LostWalk m r a xs b k s u)

-- the move leads to the state
abbrev pub MovedFrom : Rules → (ℕ → State → Type 0) → Move → ℕ → State → Type 0
MovedFrom m P x j u = (s : State) × P j s × Taken m x s u

-- ---- backward

-- so many rows lost in a still lead from the state to one of these, by how many rows are lost after it
abbrev pub StillTo : Rules → (ℕ → State → Type 0) → ℤ → ℤ → ℕ → State → Type 0
StillTo m Q a b j s = (i k : ℕ) × (i + k ≡ j) × ((u : State) × Q i u × LostRows m nothing_asked a b k s u)

-- the moves and the stills between them lead from the state to one of these, of whose rows so many are lost in all
abbrev pub WalkedTo : Rules → (ℕ → State → Type 0) → ℕ → List Move → ℕ → ℕ → State → Type 0
WalkedTo m Q a xs b j s = (i k : ℕ) × (i + k ≡ j) × ((u : State) × Q i u × LostWalk m nothing_asked a xs b k s u)

-- For contracts alone: the still before the moves ends before this tenth
abbrev pub end_of : List Move → ℕ → ℕ
end_of [] b = b
end_of (x ∷ xs) b = limit_before x

-- For contracts alone: the same without the still before the first move, for which the state is entered early enough
abbrev pub FromMove : Rules → (ℕ → State → Type 0) → List Move → ℕ → ℕ → State → Type 0
FromMove m Q [] b j s = Q j s
FromMove m Q (x ∷ xs) b j s = (s.entry <ℤ pos (limit_before x)) × ((w : State) × Taken m x s w × WalkedTo m Q (still_after x) xs b j w)

-- For contracts alone: the state is entered early enough for the move, which leads to one of these
abbrev pub MovedTo : Rules → (ℕ → State → Type 0) → Move → ℕ → State → Type 0
MovedTo m Q x j s = (s.entry <ℤ pos (limit_before x)) × ((w : State) × Taken m x s w × Q j w)
