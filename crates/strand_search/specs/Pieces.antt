-- Runs of one channel over some tenths, with rows put at unknown ones.
use Rattle.std.specs.Prelude.{◌≡◌, ℕ, ℤ, Bool, true, nat_eq, if◌then◌else◌, List, ◌++◌, reverse, take, drop}
use Rattle.sig_base.specs.declared.values.Row.{Row}
use Rattle.reach.specs.Runs.{State}
use Rattle.board.specs.History.{Agreeing, Event, Track, events_at}
use Rattle.board.specs.Moves.{RowsIn}
use Rattle.channel_ways.specs.Moves.{Alike}
use Rattle.strand_search.specs.Fillings.{AreUnknown}
use Rattle.strand_search.specs.Events.{AreFew, AreLetters}

-- what stands at a tenth: what is given where it is known, else these rows
abbrev pub mixed : (ℕ → Bool) → (ℕ → List Event) → List Row → ℕ → List Event
mixed known given fills x = if known x then given x else events_at fills x

-- the rows, which are letters of the channel at unknown tenths from f up to t, lead it there with what is given from state a to state b
pub record Piece (k : Track) (known : ℕ → Bool) (given : ℕ → List Event) (f t : ℕ) (fills : List Row) (a b : State) : Type 0 where
  pub order : RowsIn f t fills
  pub unknown : AreUnknown known fills
  pub letters : AreLetters k fills
  pub few : AreFew known fills
  pub run : Agreeing k (λ x. true) (mixed known given fills) f t a b

-- what was added to the rows leads the channel so
abbrev pub AddsPiece : Track → (ℕ → Bool) → (ℕ → List Event) → ℕ → ℕ → List Row → List Row → State → State → Type 0
AddsPiece k known given f t old new a b = (qs : List Row) × (new ≡ old ++ qs) × Piece k known given f t qs a b

-- the same, last first
abbrev pub AddsBack : Track → (ℕ → Bool) → (ℕ → List Event) → ℕ → ℕ → List Row → List Row → State → State → Type 0
AddsBack k known given f t old new a b = (qs : List Row) × (new ≡ old ++ qs) × Piece k known given f t (reverse qs) a b

-- the same, to a state that is alike to b at tenth p
abbrev pub AddsAlike : Track → (ℕ → Bool) → (ℕ → List Event) → ℕ → ℕ → ℤ → List Row → List Row → State → State → Type 0
AddsAlike k known given f t p old new a b = (w : State) × Alike p b w × AddsBack k known given f t old new a w

-- what is given up to the place after the first j events of tenth x, and what is given from it on
abbrev pub up_to : (ℕ → List Event) → ℕ → ℕ → ℕ → List Event
up_to given x j y = if nat_eq y x then take j (given y) else given y

abbrev pub on_from : (ℕ → List Event) → ℕ → ℕ → ℕ → List Event
on_from given x j y = if nat_eq y x then drop j (given y) else given y
