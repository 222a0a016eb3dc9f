use Rattle.std.proofs.Common.{◌≡◌, take}
use Rattle.split_measures.specs.Failures.{split_sum_of}
use Rattle.split_measures.specs.Verdicts.{verdicts_by}
use Rattle.split_measures.proofs.failures.verdict_sum.Given as goal

abbrev pub invariant-loop-one : goal.invariant-loop-one
invariant-loop-one l = l.sum ≡ split_sum_of (verdicts_by l.high (take l.one-index l.windows))
