use Rattle.std.proofs.Common.{take}
use Rattle.stop_bar.proofs.Waiting.{AreTaken}
use Rattle.stop_bar.proofs.window_hour.place_all.Given as goal

abbrev pub invariant-loop-service : goal.invariant-loop-service
invariant-loop-service l = AreTaken l.hour.first l.hour.end l.begun l.switched l.services (take l.service-index l.services) l.initial.ended.items l.ended.items l.waiting.items
