use Rattle.std.proofs.Common.{take}
use Rattle.channel_path.proofs.Keeping.{IsAfter, AreKept}
use Rattle.channel_ways.proofs.pasts.run_pasts.Given as goal

abbrev pub invariant-loop-place : goal.invariant-loop-place
invariant-loop-place g l = record {
  after : IsAfter (g.M.Machine.rules l.machine) l.before (take l.place l.moves) l.past;
  kept : AreKept (g.M.Machine.rules l.machine) l.before l.moves l.place l.pasts.items;
}
