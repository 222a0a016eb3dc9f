-- The moves of one channel in an hour.
use Rattle.std.specs.Prelude.{ℕ, suc, ◌+◌, ◌<◌, ◌≤◌, nat_lt, if◌then◌else◌, Option, Some, None, List, [], ◌∷◌, ◌++◌, take, drop}
use Rattle.channel_path.specs.declared.moves.Move.{Move}
use Rattle.channel_path.specs.declared.moves.Move.TheVariants.{Letter, Gap}
use Rattle.sig_base.specs.declared.values.Row.{Row}
use Rattle.gap_map.specs.declared.stretch.Stretch.{Stretch}
use Rattle.board.specs.History.{Track}

-- the number of first rows before the tenth
abbrev pub count_before : ℕ → List Row → ℕ
count_before t [] = 0
count_before t (r ∷ rs) = if nat_lt r.at t then suc (count_before t rs) else 0

abbrev pub with_letter : Option ℕ → ℕ → ℕ → List Move → List Move
with_letter None at i ms = ms
with_letter (Some l) at i ms = Letter at l i ∷ ms

-- the channel's letters among the rows, of which the first has number i
abbrev pub letter_moves : Track → ℕ → List Row → List Move
letter_moves k i [] = []
letter_moves k i (r ∷ rs) = with_letter (k.letter r.code r.param) r.at i (letter_moves k (i + 1) rs)

-- each row is at a tenth from f up to t, and none is before an earlier one
abbrev pub RowsIn : ℕ → ℕ → List Row → Type 0
RowsIn f t [] = f ≤ t
RowsIn f t (r ∷ rs) = (f ≤ r.at) × (r.at < t) × RowsIn r.at t rs

-- the moves of a stretch: the letters of its rows where it is known, else one gap
abbrev pub stretch_moves : Track → ℕ → List Row → Stretch → List Move
stretch_moves k i rows s = if s.known then letter_moves k i rows else Gap s.from s.to ∷ []

-- the moves of the channel over the stretches, where the first row has number i
abbrev pub own : Track → ℕ → List Row → List Stretch → List Move
own k i rows [] = []
own k i rows (s ∷ ss) = let n = count_before s.to rows in stretch_moves k i (take n rows) s ++ own k (i + n) (drop n rows) ss
