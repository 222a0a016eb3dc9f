use Rattle.std.proofs.Common.{◌≡◌, ◌<◌, ◌↔◌, length, negsuc, pos}
use Rattle.span_set.specs.Spans.{Within}
use Rattle.span_set.specs.Changes.{span}
use Rattle.reach.specs.Runs.{State}
use Rattle.reach.specs.Past.{Holds}
use Rattle.reach.proofs.past.Past.start.Given as goal

abbrev pub invariant-loop-colour : goal.invariant-loop-colour
invariant-loop-colour l = (length l.sets.items ≡ l._colour) × ((s : State) → Holds l.sets.items s ↔ ((s.colour < l._colour) × Within (span (negsuc 36000) (pos 0)) s.entry))
