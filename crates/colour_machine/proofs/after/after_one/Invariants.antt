use Rattle.std.proofs.Common.{◌↔◌, ◌⊎◌, ℕ}
use Rattle.colour_machine.specs.Mask.{Has}
use Rattle.colour_machine.proofs.Ways.{AddedBelow}
use Rattle.colour_machine.proofs.after.after_one.Given as goal

abbrev pub invariant-loop-colour : goal.invariant-loop-colour
invariant-loop-colour g l = (d : ℕ) → Has l.next d ↔ (Has l.reached d ⊎ AddedBelow (g.M.Machine.rules l.machine) l.colour l.from l.reached d)
