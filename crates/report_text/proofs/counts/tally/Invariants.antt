use Rattle.std.proofs.Common.{◌≡◌, take, length}
use Rattle.report_text.specs.Counts.{IsTally}
use Rattle.report_text.proofs.counts.tally.Given as goal

-- the rows so far are counted
abbrev pub invariant-loop-row : goal.invariant-loop-row
invariant-loop-row l = (length l.counts ≡ 256) × IsTally l.counts (take l.row-index l.rows)
