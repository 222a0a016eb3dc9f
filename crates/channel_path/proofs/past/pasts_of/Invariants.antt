use Rattle.std.proofs.Common.{◌≤◌, ◌-◌, length, take}
use Rattle.channel_path.proofs.Keeping.{IsAfter, AreKept}
use Rattle.channel_path.proofs.past.pasts_of.Given as goal

abbrev pub invariant-loop-place : goal.invariant-loop-place
invariant-loop-place g l = record {
  within : l.place ≤ length l.moves;
  after : IsAfter (g.M.Machine.rules l.machine) l.before (take l.place l.moves) l.past;
  kept : AreKept (g.M.Machine.rules l.machine) l.before l.moves l.place l.pasts.items;
}

abbrev pub decreases-loop-place : goal.decreases-loop-place
decreases-loop-place g l = length l.moves - l.place
