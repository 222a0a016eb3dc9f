use Rattle.std.proofs.Common.{◌≡◌, ◌≤◌, drop, reverse, length, replicate, None}
use Rattle.service_cut.specs.Steps.{lates, services_told}
use Rattle.service_cut.proofs.endings.from_the_last.Given as goal

abbrev pub invariant-loop-left : goal.invariant-loop-left
invariant-loop-left l = record {
  few : l.left ≤ length l.told;
  lates : l.initial.lates ≡ replicate (length l.initial.lates) None → l.lates ≡ lates (length l.initial.lates) (drop l.left l.told);
  services : l.initial.lates ≡ replicate (length l.initial.lates) None → l.services.items ≡ reverse (services_told (length l.initial.lates) (drop l.left l.told));
}

abbrev pub decreases-loop-left : goal.decreases-loop-left
decreases-loop-left l = l.left
