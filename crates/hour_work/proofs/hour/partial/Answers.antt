use Rattle.hour_work.proofs.hour.partial.Goals as goal

pub returns-clause-value : goal.returns-clause-value
returns-clause-value c =
    let (hour, rows, blanks) = c.in_ok-place.ensures in
    rw (hour, rows, blanks) at c.partial_over.ensures.value
