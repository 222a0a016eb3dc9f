use Rattle.std.proofs.Common.{◌≡◌, ◌≤◌, ◌-◌, ◌↔◌, length, take}
use Rattle.reach.specs.Runs.{State}
use Rattle.reach.specs.Past.{Holds}
use Rattle.channel_path.specs.Walks.{AfterMoves}
use Rattle.channel_path.proofs.past.walk_past.Given as goal

abbrev pub invariant-loop-place : goal.invariant-loop-place
invariant-loop-place g l = record {
  within : l.place ≤ length l.moves;
  colours : length l.past ≡ length l.initial.past;
  some : (s : State) × Holds l.past s;
  after : (u : State) → Holds l.past u ↔ AfterMoves (g.M.Machine.rules l.machine) l.initial.past (take l.place l.moves) u;
}

abbrev pub decreases-loop-place : goal.decreases-loop-place
decreases-loop-place g l = length l.moves - l.place
