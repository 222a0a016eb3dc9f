use Rattle.std.proofs.Common.{◌≡◌, ◌<◌, ℕ, length, take, get_or}
use Rattle.channel_path.specs.Kept.{letters}
use Rattle.channel_path.proofs.past.runs_of.Given as goal

abbrev pub invariant-loop-i : goal.invariant-loop-i
invariant-loop-i l = record {
  size : length l.runs.items ≡ l.i;
  count : l.count ≡ letters (take l.i l.moves);
  runs : (j : ℕ) → j < l.i → get_or l.runs.items j 0 ≡ letters (take j l.moves);
}
