-- Colours that a channel has in all histories, and tenths counted one by one.
use Rattle.std.specs.Prelude.{ℕ, zero, suc, ◌≡◌, ◌<◌, ◌≤◌, ◌+◌, ◌⊎◌, true}
use Rattle.reach.specs.Runs.{State}
use Rattle.gap_map.specs.Stretches.{known_at}
use Rattle.board.specs.Logs.{HourLog}
use Rattle.board.specs.Verdicts.{MayPass}
use Rattle.detector_state.specs.declared.state_asked.Asked.{Asked}
use Rattle.detector_state.specs.declared.state_asked.Asked.TheVariants.{Colour, NoneOf}

-- in each of the states that may be, the channel has colour c
abbrev pub AllHave : (State → Type 0) → ℕ → Type 0
AllHave May c = (v : State) → May v → v.colour ≡ c

-- what is asked is met: each state that may be has the colour; or none of the first n colours is that of each state that may be
abbrev pub Meets : Asked → (State → Type 0) → Type 0
Meets (Colour c) May = AllHave May c
Meets (NoneOf n) May = (c : ℕ) → c < n → AllHave May c → ⊥

-- the colours are at most 16
abbrev pub IsAsked : Asked → Type 0
IsAsked (Colour c) = c < 16
IsAsked (NoneOf n) = n ≤ 16

-- tenth t is known, and at its end the states that the channel may have meet what is asked
abbrev pub MeetsAt : HourLog → ℕ → Asked → ℕ → Type 0
MeetsAt log i asked t = (known_at log.stretches t ≡ true) × Meets asked (MayPass log t i)

-- exactly k of the n tenths from a on have the property P, counted one by one
unfoldable pub IsCount : (ℕ → Type 0) → ℕ → ℕ → ℕ → Type 0
IsCount P a zero k = k ≡ 0
IsCount P a (suc n) k = (P a × ((j : ℕ) × (k ≡ suc j) × IsCount P (a + 1) n j)) ⊎ ((P a → ⊥) × IsCount P (a + 1) n k)
