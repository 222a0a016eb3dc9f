use Rattle.std.proofs.Common.{pos, take, ◌^◌}
use Rattle.span_set.specs.Changes.{AllEnd}
use Rattle.channel_path.specs.Runs.{AreGapsOf}
use Rattle.channel_path.proofs.leg.put_holes.Given as goal

abbrev pub invariant-loop-one : goal.invariant-loop-one
invariant-loop-one l = AreGapsOf l.holes.items (take l.one-index l.gaps) × AllEnd (pos (2 ^ 32)) l.holes.items
