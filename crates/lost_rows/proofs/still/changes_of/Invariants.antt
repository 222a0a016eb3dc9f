use Rattle.std.proofs.Common.{◌↔◌, ℕ}
use Rattle.colour_machine.specs.Mask.{Has}
use Rattle.colour_machine.specs.Changes.{ChangeBelow}
use Rattle.lost_rows.proofs.still.changes_of.Given as goal

abbrev pub invariant-loop-letter : goal.invariant-loop-letter
invariant-loop-letter g l = (d : ℕ) → Has l.mask d ↔ ChangeBelow (g.M.Machine.rules l.machine) l.letter l.colour d
