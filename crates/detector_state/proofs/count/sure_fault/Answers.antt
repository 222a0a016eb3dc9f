use Rattle.detector_state.proofs.count.sure_fault.Goals as goal

pub returns : goal.returns
returns c = λ log i a b tells (low, le, high).
    let (m, first, rest) = (rw c.parts.ensures at c.ending_after.ensures) log i a b tells low in
    c.fault_among.ensures log i m b rest (first, le, high)
