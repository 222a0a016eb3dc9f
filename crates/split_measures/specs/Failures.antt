-- How many services have which verdict.
use Rattle.std.specs.Prelude.{ℕ, ◌+◌, Bool, true, false, List, count_by}
use Rattle.hour_sweep.specs.Sums.{capped}
use Rattle.split_measures.specs.declared.failures.SplitSum.{SplitSum}
use Rattle.split_measures.specs.declared.verdict.SplitVerdict.{SplitVerdict}
use Rattle.split_measures.specs.declared.verdict.SplitVerdict.TheVariants.{Fail, Pass, Undecided, Open, Fault}

-- both are one verdict
abbrev pub is_verdict : SplitVerdict → SplitVerdict → Bool
is_verdict Fail Fail = true
is_verdict Pass Pass = true
is_verdict Undecided Undecided = true
is_verdict Open Open = true
is_verdict Fault Fault = true
is_verdict _ _ = false

-- how many of the verdicts are this one
abbrev pub how_many : SplitVerdict → List SplitVerdict → ℕ
how_many v vs = capped (count_by (is_verdict v) vs)

-- how many of the verdicts are of each kind
unfoldable pub split_sum_of : List SplitVerdict → SplitSum
split_sum_of vs = record { fail = how_many Fail vs; pass = how_many Pass vs; undecided = how_many Undecided vs; left_open = how_many Open vs; fault = how_many Fault vs }

-- the verdicts of two parts of a log together
abbrev pub both_sums : SplitSum → SplitSum → SplitSum
both_sums a b = record { fail = capped (a.fail + b.fail); pass = capped (a.pass + b.pass); undecided = capped (a.undecided + b.undecided); left_open = capped (a.left_open + b.left_open); fault = capped (a.fault + b.fault) }
