use Rattle.std.proofs.Common.{◌≡◌, drop}
use Rattle.decisive.specs.Candidates.{is_row_of_parts}
use Rattle.decisive.proofs.rows.is_row_of_parts.Given as goal

abbrev pub invariant-loop-i : goal.invariant-loop-i
invariant-loop-i l = is_row_of_parts l.specs (drop l.i l.parts) l.fn.row ≡ is_row_of_parts l.specs l.parts l.fn.row
