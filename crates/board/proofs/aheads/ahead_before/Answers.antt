use Rattle.board.proofs.aheads.ahead_before.Goals as goal

pub returns-clause-before : goal.returns-clause-before
returns-clause-before c = λ s.
    let walked = rw (c.machine_of.ensures, c.copy-ahead.ensures) at c.walk_any.ensures.before in
    let lowered = c.lower_before.ensures.states s in
    let w = walked s in
    ((λ a. let (b, e) = lowered.0 a in (w.0 b, e)), λ (b, e). lowered.1 (w.1 b, e))
