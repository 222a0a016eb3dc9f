use Rattle.std.proofs.Common.{◌↔◌, ◌<◌, ◌≢◌, ℕ}
use Rattle.colour_machine.specs.Mask.{Has}
use Rattle.colour_machine.specs.Rules.{Goes}
use Rattle.reach.proofs.row.entered.Given as goal

abbrev pub invariant-loop-colour : goal.invariant-loop-colour
invariant-loop-colour g l = (d : ℕ) → Has l.mask d ↔ ((c : ℕ) × (c < l.colour) × Has l.leave c × Goes (g.M.Machine.rules l.machine) c l.letter d × (d ≢ c))
