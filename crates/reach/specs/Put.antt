-- States put in beside those that are possible.
use Rattle.std.specs.Prelude.{ℤ, pos, ◌+ℤ◌, ◌≤ℤ◌, ◌<ℤ◌, List}
use Rattle.span_set.specs.declared.set.Span.{Span}
use Rattle.span_set.specs.Spans.{Member}
use Rattle.reach.specs.declared.put.Times.{Times}
use Rattle.reach.specs.Tests.{InBound}

-- what was entered at e may be left at tenth t: within the times, as old as the floor says, at an age that meets the bound
abbrev pub LeftAt : Times → ℤ → ℤ → Type 0
LeftAt w e t = (w.from ≤ℤ t) × (t <ℤ w.to) × ((e +ℤ pos w.floor) ≤ℤ t) × InBound w.bound t e

-- so for some entry of the set
abbrev pub LeftFrom : List Span → Times → ℤ → Type 0
LeftFrom set w t = (e : ℤ) × Member set e × LeftAt w e t
