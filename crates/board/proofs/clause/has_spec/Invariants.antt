use Rattle.std.proofs.Common.{◌↔◌, drop}
use Rattle.board.specs.Verdicts.{HasSpec}
use Rattle.board.proofs.clause.has_spec.Given as goal

abbrev pub invariant-loop-term : goal.invariant-loop-term
invariant-loop-term l = HasSpec l.spec l.terms ↔ HasSpec l.spec (drop l.term-index l.terms)
