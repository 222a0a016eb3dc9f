-- What happens to one channel, and where it leads.
use Rattle.std.specs.Prelude.{◌≡◌, ℕ, ℤ, pos, ◌+◌, ◌<◌, ◌≤◌, ◌<ℤ◌, List, [], ◌∷◌, length, take, Option}
use Rattle.colour_machine.specs.Rules.{Rules}
use Rattle.span_set.specs.declared.set.Span.{Span}
use Rattle.reach.specs.Runs.{State, Step, Fills}
use Rattle.reach.specs.Past.{Holds}
use Rattle.reach.specs.Ahead.{Admits}
use Rattle.channel_path.specs.declared.moves.Move.{Move}
use Rattle.channel_path.specs.declared.moves.Move.TheVariants.{Letter, Gap}

-- the states before the move are entered before this tenth
abbrev pub limit_before : Move → ℕ
limit_before (Letter at l r) = at + 1
limit_before (Gap f t) = f

-- those after it are entered before this one
abbrev pub limit_after : Move → ℕ
limit_after (Letter at l r) = at + 1
limit_after (Gap f t) = t

-- the letter is one of the machine's, the range isn't empty
abbrev pub IsMove : Rules → Move → Type 0
IsMove m (Letter at l r) = l < m.letters
IsMove m (Gap f t) = f < t

-- each move is one of the machine's, and none is before what low and the moves before it leave open
abbrev pub InOrder : Rules → ℕ → List Move → Type 0
InOrder m low [] = Unit {0}
InOrder m low (x ∷ xs) = (low ≤ limit_before x) × IsMove m x × InOrder m (limit_after x) xs

-- the move leads from state s to state u
abbrev pub Taken : Rules → Move → State → State → Type 0
Taken m (Letter at l r) s u = Step m (pos at) s l u
Taken m (Gap f t) s u = Fills m (pos f) (pos t) s u

-- the moves, one after another, lead from state s to state u
abbrev pub Walk : Rules → List Move → State → State → Type 0
Walk m [] s u = u ≡ s
Walk m (x ∷ xs) s u = (v : State) × Taken m x s v × Walk m xs v u

-- the move leads to the state from one of the sets
abbrev pub AfterMove : Rules → List (List Span) → Move → State → Type 0
AfterMove m sets x u = (s : State) × Holds sets s × Taken m x s u

-- the moves lead to the state from one of the sets
abbrev pub AfterMoves : Rules → List (List Span) → List Move → State → Type 0
AfterMoves m sets xs u = (s : State) × Holds sets s × Walk m xs s u

-- the move leads from the state to one that is admitted
abbrev pub BeforeMove : Rules → List (Option ℤ) → Move → State → Type 0
BeforeMove m latest x s = (u : State) × Taken m x s u × Admits latest u

-- the moves lead from the state to one that is admitted
abbrev pub BeforeMoves : Rules → List (Option ℤ) → List Move → State → Type 0
BeforeMoves m latest xs s = (u : State) × Walk m xs s u × Admits latest u

-- some state is left after the moves before the j-th, from 0, and none after it
abbrev pub StopsAt : Rules → List (List Span) → List Move → ℕ → Type 0
StopsAt m sets xs j = (j < length xs) × ((u : State) × AfterMoves m sets (take j xs) u) × ((u : State) → AfterMoves m sets (take (j + 1) xs) u → ⊥)

-- each state of the sets is entered before the tenth
abbrev pub EnteredBefore : List (List Span) → ℕ → Type 0
EnteredBefore sets low = (s : State) → Holds sets s → s.entry <ℤ pos low

-- some run of the moves leads from a state of the sets to one that is admitted
abbrev pub GoesThrough : Rules → List (List Span) → List (Option ℤ) → List Move → Type 0
GoesThrough m before after xs = (u : State) × AfterMoves m before xs u × Admits after u
