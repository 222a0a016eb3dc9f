use Rattle.std.proofs.Common.{take}
use Rattle.board.specs.Logs.{HourLog}
use Rattle.arrival_measures.specs.Points.{ArePicked, IsArrival}
use Rattle.arrival_measures.specs.Views.{IsSeen}
use Rattle.arrival_measures.proofs.arrivals.arrivals_among.Given as goal

abbrev pub invariant-loop-i : goal.invariant-loop-i
invariant-loop-i l = (log : HourLog) → IsSeen l.config l.view l.rows l.stretches log → ArePicked (IsArrival l.config log l.phase) 0 (take l.i l.rows) l.arrivals.items
