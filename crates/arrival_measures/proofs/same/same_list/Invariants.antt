use Rattle.std.proofs.Common.{◌≡◌, length, take}
use Rattle.arrival_measures.proofs.same.same_list.Given as goal

abbrev pub invariant-loop-i : goal.invariant-loop-i
invariant-loop-i l = record { len : length l.a ≡ length l.b; same : take l.i l.a ≡ take l.i l.b }
