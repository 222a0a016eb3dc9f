use Rattle.std.proofs.Common.{◌<◌, ℕ, get_or}
use Rattle.hour_work.specs.declared.counts.RuleCount.{RuleCount}
use Rattle.hour_work.specs.Counts.{HasKeptAlone}
use Rattle.hour_work.proofs.numbers.Partial.are_all_kept.Given as goal

abbrev pub invariant-loop-count : goal.invariant-loop-count
invariant-loop-count l = (k : ℕ) (d : RuleCount) → k < l.count-index → HasKeptAlone (get_or l.self.rules k d)
