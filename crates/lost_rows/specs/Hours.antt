-- States that can no longer be told apart, before one hour after another.
use Rattle.std.specs.Prelude.{◌↔◌, ℕ, ◌≤◌, pos, List, [], ◌∷◌, ◌++◌}
use Rattle.colour_machine.specs.Rules.{Rules, IsMachine}
use Rattle.reach.specs.Runs.{State}
use Rattle.reach.specs.declared.seen.AgeBound.{AgeBound}
use Rattle.reach.specs.declared.seen.AgeBound.TheVariants.{Any, AtLeast, AtMost}
use Rattle.channel_path.specs.declared.moves.Move.{Move}
use Rattle.channel_path.specs.declared.moves.Move.TheVariants.{Letter, Gap}
use Rattle.channel_path.specs.Walks.{InOrder}
use Rattle.signal_log.specs.States.{AreAlike}
use Rattle.lost_rows.specs.declared.asked.Asked.{Asked}
use Rattle.lost_rows.specs.declared.line.LineRule.{LineRule}
use Rattle.lost_rows.specs.declared.line.LineRule.TheVariants.{Interval, Term}
use Rattle.lost_rows.specs.declared.aheads.LostAheads.{LostAheads}
use Rattle.lost_rows.specs.declared.pasts.LostPasts.{LostPasts}
use Rattle.lost_rows.specs.Credits.{AdmitsLost, HoldsLost}
use Rattle.lost_rows.specs.Cuts.{last_still, ExplainedFrom}
use Rattle.lost_rows.specs.Decisions.{asked_by, KeepsRule}
use Rattle.lost_rows.specs.Walks.{end_of, WalkedFrom, WalkedTo}

-- the tenth at which the move begins
abbrev pub begins : Move → ℕ
begins (Letter at l r) = at
begins (Gap f t) = f

-- no move begins before tenth p
abbrev pub BeginFrom : ℕ → List Move → Type 0
BeginFrom p [] = Unit {0}
BeginFrom p (x ∷ xs) = (p ≤ begins x) × BeginFrom p xs

-- the bound of an age is at most an hour
abbrev pub IsWithinHour : AgeBound → Type 0
IsWithinHour Any = Unit {0}
IsWithinHour (AtLeast n) = n ≤ 36000
IsWithinHour (AtMost n) = n ≤ 36000

-- so of an interval's rule
abbrev pub IsHourRule : LineRule → Type 0
IsHourRule (Interval r) = IsWithinHour r.bound
IsHourRule (Term mask) = Unit {0}

-- each state of the one has one alike among those of the other with as many rows lost, and the other way round
abbrev pub AlikeAt : Rules → ℕ → (ℕ → State → Type 0) → (ℕ → State → Type 0) → Type 0
AlikeAt m p P Q = ((j : ℕ) (s : State) → P j s → (v : State) × Q j v × AreAlike m (pos p) s v) × ((j : ℕ) (s : State) → Q j s → (v : State) × P j v × AreAlike m (pos p) s v)

-- what holds of a state holds of each that is alike
abbrev pub TellsNotApart : Rules → ℕ → (ℕ → State → Type 0) → Type 0
TellsNotApart m p E = (k : ℕ) (s v : State) → AreAlike m (pos p) s v → E k s → E k v

-- a walk over two lists is one over the first and then one over the second, cut at any tenth of the still between them, forward and back
abbrev pub HoursAreOne : Type 0
HoursAreOne = (m : Rules) (r : Asked) (pasts : LostPasts) (aheads : LostAheads) (a : ℕ) (xs : List Move) (p : ℕ) (ys : List Move) (b j : ℕ) (u : State) → last_still a xs ≤ p → p ≤ end_of ys b → (WalkedFrom m r (HoldsLost pasts) a (xs ++ ys) b j u ↔ WalkedFrom m r (λ i v. WalkedFrom m r (HoldsLost pasts) a xs p i v) p ys b j u) × (WalkedTo m (AdmitsLost aheads) a (xs ++ ys) b j u ↔ WalkedTo m (λ k v. WalkedTo m (AdmitsLost aheads) p ys b k v) a xs p j u)

-- states that can't be told apart at a point lead to states that can't, and as many lost rows explain a line behind the point from the one as from the other, where what is met at the end doesn't tell them apart
abbrev pub OlderIsAlike : Type 0
OlderIsAlike = (m : Rules) (rule : LineRule) (old new : LostPasts) (aheads : LostAheads) (p : ℕ) (xs : List Move) (at : ℕ) (ys : List Move) (b low high n : ℕ) → IsMachine m → IsHourRule rule → InOrder m low xs → InOrder m high ys → BeginFrom p xs → BeginFrom p ys → p ≤ at → TellsNotApart m p (AdmitsLost aheads) → AlikeAt m p (HoldsLost old) (HoldsLost new) → AlikeAt m p (WalkedFrom m (asked_by rule) (HoldsLost old) p xs b) (WalkedFrom m (asked_by rule) (HoldsLost new) p xs b) × (ExplainedFrom m (asked_by rule) (HoldsLost old) (AdmitsLost aheads) p xs at ys b (KeepsRule rule (pos at)) n ↔ ExplainedFrom m (asked_by rule) (HoldsLost new) (AdmitsLost aheads) p xs at ys b (KeepsRule rule (pos at)) n)
