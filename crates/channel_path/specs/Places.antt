-- The places between the moves of a channel, and what is seen there.
use Rattle.std.specs.Prelude.{◌≡◌, ℕ, ℤ, pos, ◌+◌, ◌≤◌, ◌<ℤ◌, ◌↔◌, IsTrue, List, [], ◌∷◌, length, take, drop, Option}
use Rattle.colour_machine.specs.Rules.{Rules}
use Rattle.span_set.specs.declared.set.Span.{Span}
use Rattle.reach.specs.Runs.{State}
use Rattle.reach.specs.Past.{Holds}
use Rattle.reach.specs.Ahead.{Admits}
use Rattle.reach.specs.Tests.{Meets}
use Rattle.reach.specs.declared.seen.Test.{Test}
use Rattle.reach.specs.declared.seen.Seen.{Seen}
use Rattle.channel_path.specs.declared.moves.Move.{Move}
use Rattle.channel_path.specs.Walks.{limit_before, limit_after, AfterMoves, BeforeMoves, EnteredBefore, InOrder}

-- the state is entered early enough for the first of the moves
abbrev pub EntersBefore : List Move → State → Type 0
EntersBefore [] s = Unit {0}
EntersBefore (x ∷ xs) s = s.entry <ℤ pos (limit_before x)

-- what a channel's path is of: its machine, the states before its moves, the moves, and what is admitted after them
pub record PathLog (M : Type 0) : Type 0 where
  pub machine : M
  pub before : List (List Span)
  pub moves : List Move
  pub after : List (Option ℤ)

-- the states at the place after the moves are entered before this tenth, where those before them are entered before low
abbrev pub limit_of : ℕ → List Move → ℕ
limit_of low [] = low
limit_of low (x ∷ xs) = limit_of (limit_after x) xs

-- the first of the moves takes every state that is entered before the tenth
abbrev pub TakesFrom : ℕ → List Move → Type 0
TakesFrom at [] = Unit {0}
TakesFrom at (x ∷ xs) = at ≤ limit_before x

-- moves lead from a state of the sets to the state, and others from it to one that is admitted
abbrev pub Passes : Rules → List (List Span) → List (Option ℤ) → List Move → List Move → State → Type 0
Passes m before after xs ys v = AfterMoves m before xs v × BeforeMoves m after ys v

-- whether some state between the moves meets the test, and whether some doesn't
pub record SeesPassing (m : Rules) (before : List (List Span)) (after : List (Option ℤ)) (xs : List Move) (ys : List Move) (test : Test) (seen : Seen) : Type 0 where
  pub some_true : IsTrue seen.some_true ↔ ((v : State) × Passes m before after xs ys v × Meets test v)
  pub some_false : IsTrue seen.some_false ↔ ((v : State) × Passes m before after xs ys v × (Meets test v → ⊥))

-- the same at the place before the move with this number, at each tenth that parts the moves there
abbrev pub SeesPlace : Rules → List (List Span) → List (Option ℤ) → List Move → ℕ → Test → Seen → Type 0
SeesPlace m before after moves place test seen = (low at : ℕ) → EnteredBefore before low → InOrder m low moves → limit_of low (take place moves) ≤ at + 1 → TakesFrom (at + 1) (drop place moves) → test.at ≡ pos at → SeesPassing m before after (take place moves) (drop place moves) test seen

-- of the states that enter early enough for the later moves, those that the Past holds and the Ahead admits are exactly those between the moves
abbrev pub IsBetween : Rules → List (List Span) → List (Option ℤ) → List Move → List Move → List (List Span) → List (Option ℤ) → Type 0
IsBetween m before after xs ys past ahead = (length past ≡ length ahead) × ((v : State) → EntersBefore ys v → (Holds past v × Admits ahead v) ↔ Passes m before after xs ys v)
