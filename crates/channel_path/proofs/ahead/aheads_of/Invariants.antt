use Rattle.std.proofs.Common.{◌≡◌, ◌≤◌, ◌+◌, [], get_or, length}
use Rattle.std.specs.Prelude.{IsTrue}
use Rattle.channel_path.specs.Kept.{HaveAheads, Serves, AreStandIns}
use Rattle.channel_path.proofs.ahead.aheads_of.Given as goal

abbrev pub invariant-loop-place : goal.invariant-loop-place
invariant-loop-place g l = record {
  within : l.place ≤ length l.moves;
  serves : Serves (g.M.Machine.rules l.machine) l.after l.moves l.pasts l.place l.ahead;
  all : IsTrue l.is_all → l.ahead ≡ l.all;
  first : get_or l.places.aheads.items 0 [] ≡ l.all;
  have : HaveAheads (g.M.Machine.rules l.machine).colours l.places.aheads.items;
  size : length l.places.numbers.items + l.place ≡ length l.moves;
  stand : AreStandIns (g.M.Machine.rules l.machine) l.after l.moves l.pasts (l.place + 1) l.places;
}

abbrev pub decreases-loop-place : goal.decreases-loop-place
decreases-loop-place g l = l.place
