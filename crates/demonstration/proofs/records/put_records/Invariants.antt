use Rattle.std.proofs.Common.{◌≡◌, ◌++◌, drop}
use Rattle.demonstration.specs.Texts.{record_start, records_of}
use Rattle.demonstration.proofs.records.put_records.Given as goal

-- what is there, with what is to come, is all of it; the start is that of the tenth
abbrev pub invariant-loop-row : goal.invariant-loop-row
invariant-loop-row l =
    (l.out.items ++ records_of (drop l.row-index l.rows) ≡ l.fn.out.items ++ records_of l.rows) × (l.start ≡ record_start l.at)
