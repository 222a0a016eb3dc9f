use Rattle.std.proofs.Common.{◌≡◌, take}
use Rattle.filling_pair.specs.Strands.{rows_of}
use Rattle.filling_pair.proofs.asks.fills_of.Given as goal

abbrev pub invariant-loop-row : goal.invariant-loop-row
invariant-loop-row l = rows_of l.fills ≡ take l.row-index l.rows
