use Rattle.std.proofs.Common.{◌≡◌, ◌↔◌, ◌⊎◌, ◌<◌, ◌≤◌, ◌≤ℤ◌, ◌<ℤ◌, ℕ, ℤ, get_or, []}
use Rattle.span_set.specs.Spans.{Member}
use Rattle.reach.proofs.past.clamp_sets.Given as goal

abbrev pub invariant-loop-set : goal.invariant-loop-set
invariant-loop-set l = ((c : ℕ) → c < l.set-index → (e : ℤ) → Member (get_or l.sets c []) e ↔ ((Member (get_or l.initial.sets c []) e × (l.limit ≤ℤ e)) ⊎ ((e ≡ l.limit) × ((x : ℤ) × Member (get_or l.initial.sets c []) x × (x <ℤ l.limit)))))
    × ((c : ℕ) → l.set-index ≤ c → get_or l.sets c [] ≡ get_or l.initial.sets c [])
