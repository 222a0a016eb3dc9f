use Rattle.std.proofs.Common.{◌≡◌, length, take}
use Rattle.reach.specs.Single.{sets_of}
use Rattle.channel_path.proofs.Certain.{IsOneAfter, AreOneAfter}
use Rattle.channel_path.proofs.sure.sure_from.Given as goal

abbrev pub invariant-loop-i : goal.invariant-loop-i
invariant-loop-i g l = record {
  colours : length (sets_of l.here) ≡ (g.M.Machine.rules l.machine).colours;
  here : IsOneAfter (g.M.Machine.rules l.machine) (sets_of l.fn.one) (take l.i l.moves) l.here;
  sure : AreOneAfter (g.M.Machine.rules l.machine) (sets_of l.fn.one) l.moves l.i l.sure.items;
}
