-- What is counted of one hour, and the sums over hours.
use Rattle.std.specs.Prelude.{◌≡◌, ◌≤◌, ◌<◌, ◌⊎◌, ◌+◌, ◌*◌, ◌++◌, ℕ, Bool, List, [], length, take, drop, map, slice_index_or, sum_by, All}
use Rattle.std.specs.List.{fold}
use Rattle.hour_sweep.specs.Sums.{merged}
use Rattle.split_measures.specs.declared.sums.PhaseSum.{PhaseSum}
use Rattle.split_measures.specs.declared.failures.SplitSum.{SplitSum}
use Rattle.split_measures.specs.Phases.{added}
use Rattle.split_measures.specs.Failures.{both_sums}
use Rattle.other_measures.specs.Hours.{OtherNumbers, no_numbers, others_added}
use Rattle.arrival_measures.specs.declared.sums.ArrivalSum.{ArrivalSum}
use Rattle.arrival_measures.specs.Hours.{added as arrivals_added}
use Rattle.hour_work.specs.declared.counts.RuleCount.{RuleCount}
use Rattle.arrival_measures.specs.Green.{tenths_with}

-- the numbers of one hour, or of several together; the rules stand by their numbers, from 1, and the phases by theirs; the approaches in file order
pub record Numbers : Type 0 where
  pub held_hours : ℕ
  pub held_rows : ℕ
  pub known_tenths : ℕ
  pub rules : List RuleCount
  pub splits : List PhaseSum
  pub failures : List SplitSum
  pub others : OtherNumbers
  pub arrivals : List ArrivalSum

-- For contracts alone: how many of the n tenths from `from` on pass the test.
abbrev pub count_from : (ℕ → Bool) → ℕ → ℕ → ℕ
count_from test from n = tenths_with test from n

-- how many of the tenths of an hour pass the test
abbrev pub count_in_hour : (ℕ → Bool) → ℕ → ℕ
count_in_hour test hour = count_from test (36000 * hour) 36000

-- the counts of one rule in two parts of a log together
abbrev pub count_sum : RuleCount → RuleCount → RuleCount
count_sum a b = record { kept = a.kept + b.kept; broken = a.broken + b.broken; undecided = a.undecided + b.undecided }

-- both numbers together
abbrev pub numbers_sum : Numbers → Numbers → Numbers
numbers_sum a b = record {
  held_hours = a.held_hours + b.held_hours;
  held_rows = a.held_rows + b.held_rows;
  known_tenths = a.known_tenths + b.known_tenths;
  rules = merged count_sum a.rules b.rules;
  splits = merged added a.splits b.splits;
  failures = merged both_sums a.failures b.failures;
  others = others_added a.others b.others;
  arrivals = merged arrivals_added a.arrivals b.arrivals;
}

-- the numbers of the window: those of its hours together
abbrev pub total_of : List Numbers → Numbers
total_of all = record {
  held_hours = sum_by (λ n. n.held_hours) all;
  held_rows = sum_by (λ n. n.held_rows) all;
  known_tenths = sum_by (λ n. n.known_tenths) all;
  rules = fold (merged count_sum) [] (map (λ n. n.rules) all);
  splits = fold (merged added) [] (map (λ n. n.splits) all);
  failures = fold (merged both_sums) [] (map (λ n. n.failures) all);
  others = fold others_added no_numbers (map (λ n. n.others) all);
  arrivals = fold (merged arrivals_added) [] (map (λ n. n.arrivals) all);
}

-- so many hours can give a rule this count: it is judged at most once before each row, of which an hour has at most 400,000, or once at the end of each tenth
pub record FitsCount (hours : ℕ) (c : RuleCount) : Type 0 where
  pub kept : c.kept ≤ 436000 * hours
  pub broken : c.broken ≤ 436000 * hours
  pub undecided : c.undecided ≤ 436000 * hours

-- so many hours can have these numbers
pub record FitHours (hours : ℕ) (n : Numbers) : Type 0 where
  pub held_hours : n.held_hours ≤ hours
  pub held_rows : n.held_rows ≤ 400000 * hours
  pub known_tenths : n.known_tenths ≤ 36000 * hours
  pub rules : All (FitsCount hours) n.rules

-- these are the sums over these hours, and so many hours can have them
pub record IsTotal (hours : List Numbers) (total : Numbers) : Type 0 where
  pub sums : total ≡ total_of hours
  pub fits : FitHours (length hours) total

-- block j of the hours: 27 of them, or the last ones
abbrev pub block : ℕ → List Numbers → List Numbers
block j hours = take 27 (drop (27 * j) hours)

-- these are the sums over the blocks of the hours
pub record AreBlocks (hours blocks : List Numbers) : Type 0 where
  pub all : length hours ≤ 27 * length blocks
  pub each : (j : ℕ) (d : Numbers) → j < length blocks → slice_index_or blocks j d ≡ total_of (block j hours)

-- the hours of a window, at most 744, and the sums over their blocks and over all
pub record AreSummed (hours parts : List Numbers) (total : Numbers) : Type 0 where
  pub sums : total ≡ total_of hours
  pub blocks : AreBlocks hours parts
  pub few : length hours ≤ 744
  pub small : All (FitHours 1) hours

-- sums over blocks from one on, and over all hours
pub record Summed : Type 0 where
  pub first : ℕ
  pub blocks : List Numbers
  pub total : Numbers

-- the sums over the blocks of the new hours that differ from those of before, and over all new hours
pub record AreNewSums (old new : List Numbers) (s : Summed) : Type 0 where
  pub sums : s.total ≡ total_of new
  pub within : 27 * (s.first + length s.blocks) ≤ length old + 26
  pub each : (i : ℕ) (d : Numbers) → i < length s.blocks → slice_index_or s.blocks i d ≡ total_of (block (s.first + i) new)
  pub stay : (j : ℕ) → (j < s.first) ⊎ (s.first + length s.blocks ≤ j) → block j new ≡ block j old

-- the list with these elements in place of as many from this place on
abbrev pub patched : {A : Type 0} → List A → ℕ → List A → List A
patched xs from ys = take from xs ++ (ys ++ drop (from + length ys) xs)
