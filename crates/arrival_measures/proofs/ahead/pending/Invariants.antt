use Rattle.std.proofs.Common.{◌≡◌, map, take}
use Rattle.sig_base.specs.declared.values.Row.{Row}
use Rattle.arrival_measures.proofs.ahead.pending.Given as goal

abbrev pub invariant-loop-row : goal.invariant-loop-row
invariant-loop-row l = l.tenths ≡ map (λ (x : Row). x.at) (take l.row-index l.later)
