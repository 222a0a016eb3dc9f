use Rattle.std.proofs.Common.{◌≡◌, take}
use Rattle.std.specs.List.{sum_by}
use Rattle.hour_work.specs.Known.{known_len}
use Rattle.hour_work.proofs.seen.known_in.Given as goal

abbrev pub invariant-loop-part : goal.invariant-loop-part
invariant-loop-part l = l.known ≡ sum_by known_len (take l.part-index l.parts)
