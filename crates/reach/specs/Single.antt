-- Exactly one state, without sets.
use Rattle.std.specs.Prelude.{ℕ, ℤ, pos, negsuc, ◌+ℤ◌, ◌<ℤ◌, ◌<◌, ◌≤◌, ◌^◌, Option, Some, None, List, [], ◌∷◌, replicate, slice_set}
use Rattle.span_set.specs.declared.set.Span.{Span}
use Rattle.span_set.specs.Changes.{span}
use Rattle.reach.specs.declared.past.Single.{Single}

-- the sets of n colours that hold this state alone
abbrev pub only : ℕ → ℕ → ℤ → List (List Span)
only n c e = slice_set (replicate n []) c (span e (e +ℤ pos 1) ∷ [])

abbrev pub sets_of : Single → List (List Span)
sets_of o = only o.colours o.colour o.entry

-- its colour is one of the colours, and its entry is one that a set can have
pub record IsSingle (o : Single) : Type 0 where
  pub colour : o.colour < o.colours
  pub few : o.colours ≤ 16
  pub low : negsuc (2 ^ 40) <ℤ o.entry
  pub high : o.entry <ℤ pos (2 ^ 40)

abbrev pub AreSingle : Option Single → Type 0
AreSingle None = Unit {0}
AreSingle (Some o) = IsSingle o

-- the one state, where there is one, and else the sets
abbrev pub held : Option Single → List (List Span) → List (List Span)
held None sets = sets
held (Some o) sets = sets_of o
