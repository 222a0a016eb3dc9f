-- Counting rows by their codes, one row at a time.
use Rattle.std.proofs.Common.{List, replicate, take}
use Rattle.std.proofs.lemmas.List.{get_or-replicate}
use Rattle.sig_base.specs.declared.values.Row.{Row}
use Rattle.report_text.specs.Counts.{IsTally}

-- before the first row all counts are 0
pub tally-none : (rows : List Row) → IsTally (replicate 256 0) (take 0 rows)
tally-none rows code small = get_or-replicate 256 code 0 0 small
