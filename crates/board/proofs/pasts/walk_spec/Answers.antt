use Rattle.board.proofs.pasts.walk_spec.Goals as goal

pub returns-clause-after : goal.returns-clause-after
returns-clause-after c = rw c.machine_of.ensures at c.walk_any.ensures.after
