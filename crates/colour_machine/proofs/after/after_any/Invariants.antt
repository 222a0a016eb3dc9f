use Rattle.std.proofs.Common.{◌-◌, ℕ}
use Rattle.colour_machine.specs.Mask.{Has}
use Rattle.colour_machine.proofs.Ways.{IsThrough}
use Rattle.colour_machine.proofs.after.after_any.Given as goal

abbrev pub invariant-rounds : goal.invariant-rounds
invariant-rounds g l = (d : ℕ) → Has l.reached d → IsThrough (g.M.Machine.rules l.machine) l.from d

abbrev pub decreases-rounds : goal.decreases-rounds
decreases-rounds g l = 65536 - l.reached
