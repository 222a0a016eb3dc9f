-- What keeps a line's rule, and with how few lost rows it is kept.
use Rattle.std.specs.Prelude.{◌≡◌, ℕ, ◌+◌, ◌<◌, ◌≤◌, ℤ}
use Rattle.colour_machine.specs.Mask.{Has}
use Rattle.reach.specs.Runs.{State}
use Rattle.reach.specs.Tests.{InBound}
use Rattle.reach.specs.declared.seen.AgeBound.{AgeBound}
use Rattle.lost_rows.specs.declared.asked.Asked.{Asked}
use Rattle.lost_rows.specs.declared.line.LineRule.{LineRule}
use Rattle.lost_rows.specs.declared.line.LineRule.TheVariants.{Interval, Term}
use Rattle.lost_rows.specs.declared.line.Lost.{Lost}
use Rattle.lost_rows.specs.declared.line.Lost.TheVariants.{Needs, Sturdy}
use Rattle.lost_rows.specs.Stills.{Spares}
use Rattle.lost_rows.specs.Walks.{nothing_asked, IsLeast}

-- the state keeps the rule at the tenth: an interval's as a held row that closes its colour would find it, a term's by its colour
abbrev pub KeepsRule : LineRule → ℤ → State → Type 0
KeepsRule (Interval r) t s = Spares r t s
KeepsRule (Term mask) t s = Has mask s.colour

-- what the rule asks of the rows that were lost before the line
abbrev pub asked_by : LineRule → Asked
asked_by (Interval r) = r
asked_by (Term mask) = nothing_asked

-- an interval's colour is one that a machine may have
abbrev pub IsRule : LineRule → Type 0
IsRule (Interval r) = r.colour < 16
IsRule (Term mask) = Unit {0}

-- some state keeps the rule to which what comes before the place leads, and from which what comes after it can be met, with n rows lost in all
abbrev pub Passed : (ℕ → State → Type 0) → (ℕ → State → Type 0) → (State → Type 0) → ℕ → Type 0
Passed P Q Keeps n = (i k : ℕ) × (i + k ≡ n) × ((v : State) × P i v × Keeps v × Q k v)

-- the answer is the least number of rows with which this holds, at most three, or that it holds with none up to three
abbrev pub IsLost : (ℕ → Type 0) → Lost → Type 0
IsLost P (Needs n) = (n ≤ 3) × IsLeast P n
IsLost P Sturdy = (k : ℕ) → k ≤ 3 → P k → ⊥

-- ---- For contracts alone

-- the state has one of the colours, and its age at the tenth meets the bound
abbrev pub MeetsAt : ℕ → AgeBound → ℤ → State → Type 0
MeetsAt mask bound t s = Has mask s.colour × InBound bound t s.entry
