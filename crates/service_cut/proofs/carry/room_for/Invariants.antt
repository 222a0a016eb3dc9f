use Rattle.std.proofs.Common.{◌≡◌, ◌≤◌, drop}
use Rattle.std.specs.Prelude.{max}
use Rattle.service_cut.specs.Parts.{room}
use Rattle.service_cut.proofs.carry.room_for.Given as goal

abbrev pub invariant-loop-phase : goal.invariant-loop-phase
invariant-loop-phase l = record { left : max l.room (room (drop l.phase-index l.phases)) ≡ room l.phases; few : l.room ≤ 256 }
