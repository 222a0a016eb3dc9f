use Rattle.std.proofs.Common.{◌≡◌, ◌-◌, ◌≤◌, ◌++◌, None, length, map}
use Rattle.std.specs.Prelude.{replicate}
use Rattle.std.specs.List.{range_with_len}
use Rattle.arrival_measures.specs.Steps.{no_flag}
use Rattle.arrival_measures.proofs.carry.no_flags.Given as goal

abbrev pub invariant-loop-number : goal.invariant-loop-number
invariant-loop-number l = record {
  few : length l.flags.items ≤ l.number;
  told : l.flags.items ++ replicate (l.number - length l.flags.items) None ≡ map (no_flag l.config) (range_with_len 0 l.number);
}
