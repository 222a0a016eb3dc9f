use Rattle.hour_work.proofs.steps.forward_over.Goals as goal

pub carry_over-requires-clause-shape : goal.carry_over-requires-clause-shape
carry_over-requires-clause-shape c = c.in_ok-pasts.ensures.shape.0

pub carry_over-requires-clause-early : goal.carry_over-requires-clause-early
carry_over-requires-clause-early c = c.in_ok-pasts.ensures.shape.1
