-- How few of a channel's moves leave no state that keeps a rule.
use Rattle.std.specs.Prelude.{◌≡◌, ◌↔◌, ℕ, ◌+◌, ◌<◌, ◌≤◌, ℤ, pos, negsuc, ◌≤ℤ◌, ◌<ℤ◌, Bool, true, false, List, length, take, slice_index_or}
use Rattle.span_set.specs.declared.set.Span.{Span}
use Rattle.colour_machine.specs.Mask.{Has}
use Rattle.colour_machine.specs.Rules.{Rules}
use Rattle.reach.specs.Runs.{Fills, State}
use Rattle.reach.specs.Past.{Holds}
use Rattle.reach.specs.Tests.{InBound}
use Rattle.reach.specs.declared.seen.AgeBound.{AgeBound}
use Rattle.channel_path.specs.declared.moves.Move.{Move}
use Rattle.channel_path.specs.declared.moves.Move.TheVariants.{Letter, Gap}
use Rattle.channel_path.specs.Walks.{AfterMoves, InOrder, Walk}
use Rattle.decisive.specs.declared.channel_keep.Keep.{Keep}
use Rattle.decisive.specs.declared.channel_keep.Keep.TheVariants.{Interval, Colours}

-- the state isn't of the colour, or its age at the tenth meets the bound
abbrev pub KeepsColour : ℕ → AgeBound → ℤ → State → Type 0
KeepsColour colour bound at s = s.colour ≡ colour → InBound bound at s.entry

-- the state is what it is to be at the tenth
abbrev pub KeepsBy : Keep → ℤ → State → Type 0
KeepsBy (Interval colour bound) at s = KeepsColour colour bound at s
KeepsBy (Colours colours) at s = Has colours s.colour

-- the colour is one of so many
abbrev pub FitsKeep : ℕ → Keep → Type 0
FitsKeep n (Interval colour bound) = colour < n
FitsKeep n (Colours colours) = Unit {0}

-- the first n moves lead nowhere from the states, and fewer of them somewhere
pub record IsEnding (m : Rules) (sets : List (List Span)) (ys : List Move) (n : ℕ) : Type 0 where
  pub within : n ≤ length ys
  pub none : (u : State) → AfterMoves m sets (take n ys) u → ⊥
  pub some : (k : ℕ) → k < n → (u : State) × AfterMoves m sets (take k ys) u

-- the moves lead nowhere, or these are the states to which they lead that keep the rule
abbrev pub AreKept : Rules → List (List Span) → List Move → (State → Type 0) → List (List Span) → Bool → Type 0
AreKept m sets xs K kept false = (u : State) → AfterMoves m sets xs u → ⊥
AreKept m sets xs K kept true = (u : State) → Holds kept u ↔ (AfterMoves m sets xs u × K u)

-- no walk from one of the states keeps the rule at the place between the moves
abbrev pub NoneKeeps : Rules → List (List Span) → List Move → (State → Type 0) → List Move → Type 0
NoneKeeps m sets xs K ys = (v u : State) → AfterMoves m sets xs v → K v → Walk m ys v u → ⊥

-- the first n moves after the place leave no walk that keeps the rule, and fewer leave one
pub record IsEnd (m : Rules) (sets : List (List Span)) (xs : List Move) (K : State → Type 0) (ys : List Move) (n : ℕ) : Type 0 where
  pub within : n ≤ length ys
  pub none : NoneKeeps m sets xs K (take n ys)
  pub least : (k : ℕ) → k < n → NoneKeeps m sets xs K (take k ys) → ⊥

-- a state in which the tenth may begin where nothing before it is known
abbrev pub IsFreeAt : Rules → ℕ → State → Type 0
IsFreeAt m t u = (s : State) × ((s.colour < m.colours) × (negsuc 36000 ≤ℤ s.entry) × (s.entry <ℤ pos 0)) × Fills m (pos 0) (pos t) s u

-- no walk that begins at the tenth, from any state with which it may begin, keeps the rule
abbrev pub NoneKeepsFrom : Rules → ℕ → List Move → (State → Type 0) → List Move → Type 0
NoneKeepsFrom m t xs K ys = (s v u : State) → IsFreeAt m t s → Walk m xs s v → K v → Walk m ys v u → ⊥

-- ---- laws

-- with the end it is told of any number of first moves whether a walk that keeps the rule is left
abbrev pub EndDecides : Type 0
EndDecides = (m : Rules) (sets : List (List Span)) (xs : List Move) (keep : Keep) (at : ℤ) (ys : List Move) (n : ℕ) → IsEnd m sets xs (KeepsBy keep at) ys n → (c : ℕ) → NoneKeeps m sets xs (KeepsBy keep at) (take c ys) ↔ (n ≤ c)

-- the move with which none is left is a letter
abbrev pub EndIsLetter : Type 0
EndIsLetter = (m : Rules) (sets : List (List Span)) (xs : List Move) (keep : Keep) (at : ℤ) (ys : List Move) (n low f t : ℕ) → InOrder m low ys → IsEnd m sets xs (KeepsBy keep at) ys (n + 1) → slice_index_or ys n (Letter 0 0 0) ≡ Gap f t → ⊥
