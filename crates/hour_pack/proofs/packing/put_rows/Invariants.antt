use Rattle.std.proofs.Common.{◌+◌, ◌*◌, ◌++◌, drop}
use Rattle.hour_pack.specs.Grammar.{rows_bytes}
use Rattle.hour_pack.proofs.PackFacts.{IsPut}
use Rattle.hour_pack.proofs.packing.put_rows.Given as goal

abbrev pub invariant-loop-row : goal.invariant-loop-row
invariant-loop-row l =
    IsPut (36000 * l.hour + 36000) (l.fn.out.items ++ rows_bytes (36000 * l.hour) l.rows) l.rows l.out.items l.last (drop l.row-index l.rows)
