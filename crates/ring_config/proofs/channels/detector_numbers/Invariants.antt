use Rattle.std.proofs.Common.{◌≡◌, take, flat_map}
use Rattle.ring_config.specs.Settings.{detectors}
use Rattle.ring_config.proofs.channels.detector_numbers.Given as goal

abbrev pub invariant-loop-approach : goal.invariant-loop-approach
invariant-loop-approach l = l.numbers.items ≡ flat_map detectors (take l.approach-index l.approaches)
