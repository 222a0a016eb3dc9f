use Rattle.board.proofs.between.near_any.Goals as goal

pub returns-in-Phase-clause-before : goal.returns-in-Phase-clause-before
returns-in-Phase-clause-before c = rw c.in-Phase.is c.ahead_near.ensures.before

pub returns-in-Ped-clause-before : goal.returns-in-Ped-clause-before
returns-in-Ped-clause-before c = rw c.in-Ped.is c.ahead_near-in-Ped.ensures.before

pub returns-in-Overlap-clause-before : goal.returns-in-Overlap-clause-before
returns-in-Overlap-clause-before c = rw c.in-Overlap.is c.ahead_near-in-Overlap.ensures.before

pub returns-in-Switch-clause-before : goal.returns-in-Switch-clause-before
returns-in-Switch-clause-before c = rw c.in-Switch.is c.ahead_near-in-Switch.ensures.before

pub returns-in-Detector-clause-before : goal.returns-in-Detector-clause-before
returns-in-Detector-clause-before c = rw c.in-Detector.is c.ahead_near-in-Detector.ensures.before

pub returns-in-Preempt-clause-before : goal.returns-in-Preempt-clause-before
returns-in-Preempt-clause-before c = rw c.in-Preempt.is c.ahead_near-in-Preempt.ensures.before

pub returns-in-Coord-clause-before : goal.returns-in-Coord-clause-before
returns-in-Coord-clause-before c = rw c.in-Coord.is c.ahead_near-in-Coord.ensures.before
