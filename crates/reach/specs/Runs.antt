-- States of one machine, and where its letters lead.
use Rattle.std.specs.Prelude.{◌≡◌, ◌≢◌, ◌⊎◌, ℕ, ℤ, pos, ◌+ℤ◌, ◌≤ℤ◌, List, [], ◌∷◌, length}
use Rattle.colour_machine.specs.Rules.{Rules, Goes}

-- the state of a channel: its colour, and the tenth at which that was entered
pub record State : Type 0 where
  pub colour : ℕ
  pub entry : ℤ

-- a state by its two parts
abbrev pub state : ℕ → ℤ → State
state c e = record { colour = c; entry = e }

-- at tenth t the colour has lasted at least its floor, so that it may be left
abbrev pub OldEnough : Rules → ℤ → State → Type 0
OldEnough m t s = (s.entry +ℤ pos (m.floor s.colour)) ≤ℤ t

-- the letter at tenth t is legal in state s and leads to state u: the colour stays and so does its entry, or the colour may be left and another is entered at t
abbrev pub Step : Rules → ℤ → State → ℕ → State → Type 0
Step m t s l u = Goes m s.colour l u.colour × ((u ≡ s) ⊎ ((u.colour ≢ s.colour) × (u.entry ≡ t) × OldEnough m t s))

-- the letters of tenth t, one after another, are legal from state s and lead to state u
abbrev pub Steps : Rules → ℤ → State → List ℕ → State → Type 0
Steps m t s [] u = u ≡ s
Steps m t s (l ∷ ls) u = (v : State) × Step m t s l v × Steps m t v ls u

-- the lists of letters, placed at the tenths t, t + 1 and so on, are legal from state s and lead to state u
abbrev pub Run : Rules → ℤ → State → List (List ℕ) → State → Type 0
Run m t s [] u = u ≡ s
Run m t s (ls ∷ rest) u = (v : State) × Steps m t s ls v × Run m (t +ℤ pos 1) v rest u

-- some legal lists for the tenths from f up to t lead from state s to state u
abbrev pub Fills : Rules → ℤ → ℤ → State → State → Type 0
Fills m f t s u = (lists : List (List ℕ)) × ((f +ℤ pos (length lists)) ≡ t) × Run m f s lists u
