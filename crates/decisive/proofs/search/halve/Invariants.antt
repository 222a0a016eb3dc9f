use Rattle.std.proofs.Common.{◌-◌, ◌<◌, ◌≤◌, ℕ, length}
use Rattle.decisive.specs.Tries.{DoesAt, found_at}
use Rattle.decisive.proofs.search.halve.Given as goal

abbrev pub invariant-search : goal.invariant-search
invariant-search l = (l.low ≤ l.high) × (l.high < length l.trail.found.items) × DoesAt l.aim l.question l.told (found_at l.trail l.high) × ((k : ℕ) → k < l.low → DoesAt l.aim l.question l.told (found_at l.trail k) → ⊥)

abbrev pub decreases-search : goal.decreases-search
decreases-search l = l.high - l.low
