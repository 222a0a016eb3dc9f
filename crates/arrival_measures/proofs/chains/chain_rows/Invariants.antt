use Rattle.std.proofs.Common.{◌≡◌, ◌-◌, ◌<◌, ◌≤◌, true, length, get_or, take}
use Rattle.std.specs.List.{filter}
use Rattle.board.specs.Logs.{no_row}
use Rattle.arrival_measures.specs.Chains.{is_in}
use Rattle.arrival_measures.proofs.chains.chain_rows.Given as goal

abbrev pub invariant-loop-place : goal.invariant-loop-place
invariant-loop-place l = record {
  within : l.place ≤ length l.chains;
  on : l.place < length l.chains → is_in l.fn.chain (get_or l.chains l.place no_row) ≡ true;
  own : l.own.items ≡ filter (is_in l.fn.chain) (take l.place l.chains);
}

abbrev pub decreases-loop-place : goal.decreases-loop-place
decreases-loop-place l = length l.chains - l.place
