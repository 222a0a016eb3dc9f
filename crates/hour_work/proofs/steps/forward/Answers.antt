use Rattle.hour_work.proofs.steps.forward.Goals as goal

pub returns-clause-over : goal.returns-clause-over
returns-clause-over c =
    let (hour, rows, blanks) = c.in_ok-place.ensures in
    rw (hour, rows, blanks) at c.forward_over.ensures.over
