-- What holds of all fillings of moves.
use Rattle.std.specs.Prelude.{◌≡◌, ℕ, ℤ, pos, ◌+ℤ◌, ◌≤ℤ◌, List, ◌++◌, reverse}
use Rattle.colour_machine.specs.Rules.{Rules, IsMachine}
use Rattle.gap_ways.specs.declared.states.Fill.{Fill}
use Rattle.gap_ways.specs.declared.states.Entered.{Entered}
use Rattle.gap_ways.specs.Ways.{state_of}
use Rattle.reach.specs.Runs.{State}
use Rattle.channel_path.specs.declared.moves.Move.{Move}
use Rattle.channel_path.specs.Walks.{InOrder, Walk}
use Rattle.channel_ways.specs.Moves.{Alike, AddedAlike, Filled}

-- moves that letters in their gaps lead over, from one state to another, are a walk
abbrev pub FillingsAreWalks : Type 0
FillingsAreWalks = (m : Rules) (low : ℕ) (xs : List Move) (fs : List Fill) (s u : State) → InOrder m low xs → Filled m xs fs s u → Walk m xs s u

-- from a state that is alike the same letters lead to one that is alike
abbrev pub AlikeGoesOn : Type 0
AlikeGoesOn = (m : Rules) (p : ℤ) (low : ℕ) (xs : List Move) (fs : List Fill) (s r u : State) → IsMachine m → p ≤ℤ pos low → InOrder m low xs → Alike p s r → Filled m xs fs s u → (w : State) × Filled m xs fs r w × Alike p u w

-- what was added to the fills, last first, fills the moves from state s to a state that is alike to z at tenth p
abbrev pub Thread : Rules → List Move → ℤ → List Fill → List Fill → Entered → State → Type 0
Thread m xs p old new s z = (gs : List Fill) × (new ≡ old ++ gs) × ((w : State) × Filled m xs (reverse gs) (state_of s) w × Alike p z w)

-- where an hour's fills lead to a state that is alike to one from which those of the hours after it go on, both go on as one
abbrev pub HoursJoin : Type 0
HoursJoin = (m : Rules) (xs ys : List Move) (limit p : ℤ) (low : ℕ) (old mid new : List Fill) (u s : Entered) (z : State) → IsMachine m → InOrder m low ys → (limit +ℤ pos 36001) ≤ℤ pos low → (limit +ℤ pos 36001) ≤ℤ p → Thread m ys p old mid u z → AddedAlike m xs limit mid new u s → Thread m (xs ++ ys) p old new s z
