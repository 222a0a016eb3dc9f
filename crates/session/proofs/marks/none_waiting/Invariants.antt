use Rattle.std.proofs.Common.{◌≡◌, length}
use Rattle.session.specs.Links.{AllSettled}
use Rattle.session.proofs.marks.none_waiting.Given as goal

abbrev pub invariant-loop : goal.invariant-loop
invariant-loop l = record {
  size : length l.waiting.items ≡ l.counter;
  settled : AllSettled l.waiting.items;
}
