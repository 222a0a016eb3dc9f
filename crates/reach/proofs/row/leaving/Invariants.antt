use Rattle.std.proofs.Common.{◌↔◌, ◌<◌, ℕ, []}
use Rattle.std.specs.Prelude.{slice_index_or}
use Rattle.colour_machine.specs.Mask.{Has}
use Rattle.reach.specs.Leaving.{HasOld}
use Rattle.reach.proofs.row.leaving.Given as goal

abbrev pub invariant-loop-colour : goal.invariant-loop-colour
invariant-loop-colour g l = (c : ℕ) → Has l.leave c ↔ ((c < l.colour) × HasOld (slice_index_or l.sets c []) ((g.M.Machine.rules l.machine).floor c) l.at)
