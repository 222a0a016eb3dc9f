use Rattle.std.proofs.Common.{◌≡◌, take}
use Rattle.std.specs.Prelude.{flat_map}
use Rattle.sigaudit.specs.Offsets.{arrivals_in}
use Rattle.sigaudit.proofs.offsets.arrivals_of.Given as goal

abbrev pub invariant-loop-diagram : goal.invariant-loop-diagram
invariant-loop-diagram l = l.arrivals.items ≡ flat_map (arrivals_in l.place) (take l.diagram-index l.diagrams)
