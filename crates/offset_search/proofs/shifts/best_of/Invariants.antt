use Rattle.std.proofs.Common.{◌≡◌, ℕ, ◌<◌, ◌≤◌, get_or, length}
use Rattle.offset_search.proofs.shifts.best_of.Given as goal

abbrev pub invariant-loop-j : goal.invariant-loop-j
invariant-loop-j l = record {
  within : l.shift < length l.counts;
  at : get_or l.counts l.shift 0 ≡ l.most;
  most : (k : ℕ) → k < l.j → get_or l.counts k 0 ≤ l.most;
  least : (k : ℕ) → k < l.shift → get_or l.counts k 0 < l.most;
}
