use Rattle.std.proofs.Common.{◌↔◌, drop}
use Rattle.filling_pair.specs.Kept.{HoldsIn}
use Rattle.filling_pair.proofs.keeps.holds_in.Given as goal

abbrev pub invariant-loop-term : goal.invariant-loop-term
invariant-loop-term l = HoldsIn l.terms l.fn.spec l.fn.colour ↔ HoldsIn (drop l.term-index l.terms) l.fn.spec l.fn.colour
