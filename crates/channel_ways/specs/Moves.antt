-- A channel's moves with fills in the gaps.
use Rattle.std.specs.Prelude.{◌≡◌, ◌⊎◌, ◌↔◌, ℕ, ℤ, pos, ◌+◌, ◌≤◌, ◌<ℤ◌, ◌≤ℤ◌, ◌+ℤ◌, ◌^◌, Bool, Option, List, [], ◌∷◌, ◌++◌, length, reverse, MatchOption}
use Rattle.colour_machine.specs.Rules.{Rules}
use Rattle.span_set.specs.declared.set.Span.{Span}
use Rattle.gap_ways.specs.declared.states.Fill.{Fill}
use Rattle.gap_ways.specs.declared.states.Entered.{Entered}
use Rattle.reach.specs.Runs.{State, state, Step}
use Rattle.reach.specs.Past.{Holds}
use Rattle.gap_ways.specs.Ways.{Way, NoneOlder, state_of}
use Rattle.channel_path.specs.declared.moves.Move.{Move}
use Rattle.channel_path.specs.declared.moves.Move.TheVariants.{Letter, Gap}
use Rattle.reach.specs.Ahead.{Admits}
use Rattle.gap_ways.specs.Choices.{Answers}
use Rattle.reach.specs.declared.seen.Test.{Test}
use Rattle.channel_ways.specs.declared.passage.Passing.{Passing}
use Rattle.channel_path.specs.Walks.{limit_before, Taken, AfterMoves, EnteredBefore, InOrder}
use Rattle.channel_path.specs.Places.{limit_of, Passes, TakesFrom}

-- the move with these fills, at most sixteen in a gap and none at a letter, legally leads from state s to state u
abbrev pub FilledMove : Rules → Move → List Fill → State → State → Type 0
FilledMove m (Letter at l r) fs s u = (fs ≡ []) × Step m (pos at) s l u
FilledMove m (Gap f t) fs s u = (length fs ≤ 16) × Way m (pos f) (pos t) s fs u

-- the moves with these fills in their gaps legally lead from state s to state u
abbrev pub Filled : Rules → List Move → List Fill → State → State → Type 0
Filled m [] fs s u = (fs ≡ []) × (u ≡ s)
Filled m (x ∷ xs) fs s u = (hs : List Fill) × (bs : List Fill) × (fs ≡ hs ++ bs) × ((v : State) × FilledMove m x hs s v × Filled m xs bs v u)

-- the move leads to the state from one of the sets that is entered early enough for it
abbrev pub ComesFrom : Rules → List (List Span) → Move → State → Type 0
ComesFrom m sets x u = (s : State) × Holds sets s × (s.entry <ℤ pos (limit_before x)) × Taken m x s u

-- the state is one of the sets, early enough for the move, and what was added to the fills, last first, fills the move from it to state u
abbrev pub IsMoveSource : Rules → List (List Span) → Move → List Fill → List Fill → Entered → Entered → Type 0
IsMoveSource m sets x old new u s = Holds sets (state_of s) × (s.entry <ℤ pos (limit_before x)) × ((gs : List Fill) × (new ≡ old ++ gs) × FilledMove m x (reverse gs) (state_of s) (state_of u))

-- what was added to the fills, last first, fills the moves from state s to state u
abbrev pub AddedMoves : Rules → List Move → List Fill → List Fill → Entered → Entered → Type 0
AddedMoves m xs old new s u = (gs : List Fill) × (new ≡ old ++ gs) × Filled m xs (reverse gs) (state_of s) (state_of u)

-- the states have one colour, and one entry or both entries more than an hour before tenth p
abbrev pub Alike : ℤ → State → State → Type 0
Alike p s r = (r.colour ≡ s.colour) × ((r ≡ s) ⊎ (((s.entry +ℤ pos 36001) ≤ℤ p) × ((r.entry +ℤ pos 36001) ≤ℤ p)))

-- the state is one after the moves with an entry from the limit on, or one after them had an earlier entry, which has become the limit
abbrev pub ClampedAfter : Rules → List (List Span) → List Move → ℤ → State → Type 0
ClampedAfter m sets xs limit u = (AfterMoves m sets xs u × (limit ≤ℤ u.entry)) ⊎ ((u.entry ≡ limit) × ((e : ℤ) × AfterMoves m sets xs (state u.colour e) × (e <ℤ limit)))

-- the state is one after the moves, and alike
abbrev pub IsUnclamped : Rules → List (List Span) → List Move → ℤ → Entered → Entered → Type 0
IsUnclamped m sets xs limit u w = (w.colour ≡ u.colour) × AfterMoves m sets xs (state_of w) × Alike (limit +ℤ pos 36001) (state_of u) (state_of w)

-- what was added to the fills, last first, fills the moves from state s to a state that is alike to u
abbrev pub AddedAlike : Rules → List Move → ℤ → List Fill → List Fill → Entered → Entered → Type 0
AddedAlike m xs limit old new u s = (w : Entered) × Alike (limit +ℤ pos 36001) (state_of u) (state_of w) × AddedMoves m xs old new s w

-- what was added to the fills, last first, fills moves from state s to one that answers the test as asked, and further moves from it to one that is admitted
abbrev pub AddedThrough : Rules → List Move → List Move → List (Option ℤ) → Bool → Test → List Fill → List Fill → Entered → Type 0
AddedThrough m xs ys after met test old new s = (v : Entered) × (u : Entered) × Answers met test (state_of v) × Admits after (state_of u) × ((gs : List Fill) × (hs : List Fill) × (new ≡ (old ++ gs) ++ hs) × Filled m xs (reverse hs) (state_of s) (state_of v) × Filled m ys (reverse gs) (state_of v) (state_of u))

-- no state that moves lead to, and from which others lead to one that is admitted, answers the test as asked
abbrev pub NonePasses : Rules → List (List Span) → List (Option ℤ) → List Move → List Move → Bool → Test → Type 0
NonePasses m before after xs ys met test = (v : State) → Passes m before after xs ys v → Answers met test v → ⊥

-- the state alone is held
abbrev pub IsAlone : List (List Span) → Entered → Type 0
IsAlone sets one = (s : State) → Holds sets s ↔ (s ≡ state_of one)

-- the state passes the place and answers the test as asked, and these sets hold it alone; none of them is entered after the place
abbrev pub PassesAlone : Rules → List (List Span) → List (Option ℤ) → List Move → List Move → Bool → Test → Passing → Type 0
PassesAlone m before after xs ys met test p = Passes m before after xs ys (state_of p.state) × Answers met test (state_of p.state) × (p.state.entry ≤ℤ test.at) × (length p.only ≡ m.colours) × IsAlone p.only p.state

-- none where no state that passes answers the test as asked; else one that does, and what is possible with it
abbrev pub IsPassing : Rules → List (List Span) → List (Option ℤ) → List Move → List Move → Bool → Test → Option Passing → Type 0
IsPassing m before after xs ys met test r = MatchOption r (NonePasses m before after xs ys met test) (PassesAlone m before after xs ys met test)

-- none where no state that passes answers the test as asked; else a state before the moves, from which what was added leads through one that does
abbrev pub IsSourceThrough : Rules → List (List Span) → List (Option ℤ) → List Move → List Move → Bool → Test → List Fill → List Fill → Option Entered → Type 0
IsSourceThrough m before after xs ys met test old new r = MatchOption r (NonePasses m before after xs ys met test) (AddedThrough m xs ys after met test old new)

-- the moves, which follow one another over a place at this tenth, and the entries before them; all lie before tenth 2 ^ 38
pub record IsPassage (m : Rules) (before : List (List Span)) (xs ys : List Move) (at : ℤ) : Type 0 where
  pub low : ℕ
  pub early : EnteredBefore before low
  pub none_older : NoneOlder before
  pub order : InOrder m low xs
  pub tenth : ℕ
  pub same : at ≡ pos tenth
  pub last : limit_of low xs ≤ tenth + 1
  pub takes : TakesFrom (tenth + 1) ys
  pub onward : InOrder m 0 ys
  pub end : limit_of (tenth + 1) ys ≤ 2 ^ 38
  pub soon : tenth ≤ 2 ^ 38
