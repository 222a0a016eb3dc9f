use Rattle.std.proofs.Common.{◌≡◌, ◌++◌, map, take, drop}
use Rattle.std.specs.Prelude.{option_map}
use Rattle.hour_sweep.proofs.track.clear_all.Given as goal

abbrev pub invariant-loop-part : goal.invariant-loop-part
invariant-loop-part g l = l.parts ≡ map (option_map g.T.Track.clear) (take l.part-index l.initial.parts) ++ drop l.part-index l.initial.parts
