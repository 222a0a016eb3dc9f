-- Rows that are letters of a channel.
use Rattle.std.specs.Prelude.{◌≡◌, ℕ, suc, ◌<◌, ◌≤◌, pos, ◌≤ℤ◌, ◌<ℤ◌, ◌&&◌, nat_le, nat_lt, ◌^◌, Bool, false, if◌then◌else◌, IsSome, List, [], ◌∷◌, ◌++◌}
use Rattle.sig_base.specs.declared.values.Row.{Row}
use Rattle.colour_machine.specs.Rules.{Rules}
use Rattle.board.specs.History.{Track}
use Rattle.board.specs.Logs.{first_tenth, end_tenth}
use Rattle.gap_ways.specs.declared.states.Fill.{Fill}
use Rattle.strand_search.specs.Fillings.{AreFillRows}

-- each row is a letter of the channel
abbrev pub AreLetters : Track → List Row → Type 0
AreLetters k [] = Unit {0}
AreLetters k (r ∷ rs) = IsSome (k.letter r.code r.param) × AreLetters k rs

-- how many of the rows stand at the tenths from a up to b
abbrev pub count_within : ℕ → ℕ → List Row → ℕ
count_within a b [] = 0
count_within a b (r ∷ rs) = if nat_le a r.at && nat_lt r.at b then suc (count_within a b rs) else count_within a b rs

-- at most sixteen of the rows stand in any one run of unknown tenths of an hour
abbrev pub AreFew : (ℕ → Bool) → List Row → Type 0
AreFew known rs = (hour a b : ℕ) → first_tenth hour ≤ a → b ≤ end_tenth hour → ((y : ℕ) → a ≤ y → y < b → known y ≡ false) → count_within a b rs ≤ 16

-- for contracts alone: all tenths from a up to b are unknown
abbrev pub NoneKnown : (ℕ → Bool) → ℕ → ℕ → Type 0
NoneKnown known a b = (y : ℕ) → a ≤ y → y < b → known y ≡ false

-- what was added to the rows is these letters of the channel
abbrev pub AddsLetters : Track → List Fill → List Row → List Row → Type 0
AddsLetters k fs old new = (qs : List Row) × (new ≡ old ++ qs) × AreFillRows k fs qs

-- each of these is a letter of the machine, at a tenth that a window may have
abbrev pub AreLettersOf : Rules → List Fill → Type 0
AreLettersOf m [] = Unit {0}
AreLettersOf m (x ∷ xs) = (x.letter < m.letters) × (pos 0 ≤ℤ x.at) × (x.at <ℤ pos (2 ^ 32)) × AreLettersOf m xs
