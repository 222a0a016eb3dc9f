use Rattle.std.proofs.Common.{◌↔◌, ◌<◌, ℕ}
use Rattle.colour_machine.specs.Mask.{Has}
use Rattle.colour_machine.specs.Rules.{Goes}
use Rattle.reach.proofs.row.kept.Given as goal

abbrev pub invariant-loop-colour : goal.invariant-loop-colour
invariant-loop-colour g l = (c : ℕ) → Has l.mask c ↔ ((c < l.colour) × Goes (g.M.Machine.rules l.machine) c l.letter c)
