-- States by how many rows were lost, none to three.
use Rattle.std.specs.Prelude.{◌≡◌, ℕ, zero, suc, ◌≤◌, ℤ, Option, List, [], length}
use Rattle.span_set.specs.declared.set.Span.{Span}
use Rattle.reach.specs.Runs.{State}
use Rattle.reach.specs.Past.{Holds}
use Rattle.reach.specs.Ahead.{Admits}
use Rattle.channel_path.specs.Walks.{EnteredBefore}
use Rattle.lost_rows.specs.declared.pasts.LostPasts.{LostPasts}
use Rattle.lost_rows.specs.declared.aheads.LostAheads.{LostAheads}

-- the sets of the states of which so many rows were lost
abbrev pub sets_with : LostPasts → ℕ → List (List Span)
sets_with p zero = p.none
sets_with p (suc zero) = p.one
sets_with p (suc (suc zero)) = p.two
sets_with p (suc (suc (suc zero))) = p.three
sets_with p (suc (suc (suc (suc n)))) = []

-- the state is held with so many rows lost
abbrev pub HoldsLost : LostPasts → ℕ → State → Type 0
HoldsLost p j s = Holds (sets_with p j) s

-- each has so many colours
abbrev pub AllOf : ℕ → LostPasts → Type 0
AllOf n p = (length p.none ≡ n) × (length p.one ≡ n) × (length p.two ≡ n) × (length p.three ≡ n)

-- each state is entered before the tenth
abbrev pub AllBefore : LostPasts → ℕ → Type 0
AllBefore p low = (j : ℕ) → j ≤ 3 → EnteredBefore (sets_with p j) low

-- ---- backward

-- the latest entries of the states after which so many rows are lost
abbrev pub latest_with : LostAheads → ℕ → List (Option ℤ)
latest_with p zero = p.none
latest_with p (suc zero) = p.one
latest_with p (suc (suc zero)) = p.two
latest_with p (suc (suc (suc zero))) = p.three
latest_with p (suc (suc (suc (suc n)))) = []

-- the state is admitted with so many rows lost after it
abbrev pub AdmitsLost : LostAheads → ℕ → State → Type 0
AdmitsLost p j s = Admits (latest_with p j) s

-- each has so many colours
abbrev pub AllAheads : ℕ → LostAheads → Type 0
AllAheads n p = (length p.none ≡ n) × (length p.one ≡ n) × (length p.two ≡ n) × (length p.three ≡ n)
