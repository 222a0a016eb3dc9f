-- Letters in the gaps of an hour, as rows at its unknown tenths.
use Rattle.std.specs.Prelude.{◌≡◌, ℕ, pos, Bool, true, false, if◌then◌else◌, Some, List, [], ◌∷◌}
use Rattle.sig_base.specs.declared.values.Row.{Row}
use Rattle.gap_map.specs.declared.stretch.Stretch.{Stretch}
use Rattle.gap_map.specs.Stretches.{FollowOn, known_at}
use Rattle.reach.specs.Runs.{State}
use Rattle.board.specs.History.{Agreeing, Event, Track, events_at}
use Rattle.board.specs.Moves.{RowsIn, own}
use Rattle.gap_ways.specs.declared.states.Fill.{Fill}
use Rattle.channel_ways.specs.Moves.{Filled}

-- each row is at the tenth of the letter beside it, and is that letter of the channel
abbrev pub AreFillRows : Track → List Fill → List Row → Type 0
AreFillRows k [] [] = Unit {0}
AreFillRows k [] (r ∷ rs) = ⊥
AreFillRows k (x ∷ xs) [] = ⊥
AreFillRows k (x ∷ xs) (r ∷ rs) = (x.at ≡ pos r.at) × (k.letter r.code r.param ≡ Some x.letter) × AreFillRows k xs rs

-- what stands at a tenth: the known rows where it is known, else the other ones
abbrev pub events_of : (ℕ → Bool) → List Row → List Row → ℕ → List Event
events_of known rows fills x = if known x then events_at rows x else events_at fills x

-- the rows stand at unknown tenths alone
abbrev pub AreUnknown : (ℕ → Bool) → List Row → Type 0
AreUnknown known [] = Unit {0}
AreUnknown known (r ∷ rs) = (known r.at ≡ false) × AreUnknown known rs

-- where letters in the gaps of an hour's moves lead from state s to state u, the rows that are these letters stand at its unknown tenths in order, and with the known rows they lead so, tenth by tenth
abbrev pub FillingsAgree : Type 0
FillingsAgree = (k : Track) (f t i : ℕ) (rows fills : List Row) (ss : List Stretch) (fs : List Fill) (s u : State) → FollowOn f t ss → RowsIn f t rows → AreFillRows k fs fills → Filled k.rules (own k i rows ss) fs s u → RowsIn f t fills × AreUnknown (known_at ss) fills × Agreeing k (λ x. true) (events_of (known_at ss) rows fills) f t s u
