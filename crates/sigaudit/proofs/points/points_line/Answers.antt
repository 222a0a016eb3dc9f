use Rattle.std.proofs.Common.{List, ap, ◌∙◌}
use Rattle.sig_base.specs.declared.values.PhaseItem.{PhaseItem}
use Rattle.sig_base.specs.Numbers.{has_phase}
use Rattle.sigaudit.proofs.PointFacts.{phase_absent, phase_still, phase_there}
use Rattle.sigaudit.proofs.points.points_line.Goals as goal

pub returns-then-not-has_phase-clause-turn : goal.returns-then-not-has_phase-clause-turn
returns-then-not-has_phase-clause-turn g c =
    phase_absent c.args.session.now.config c.config.result.now c.config-then-not-has_phase.result.now c.args.number c.args.phase c.args.session.now.store c.has_phase.result _ _ c.refuse.result c.config.ensures.value c.config-then-not-has_phase.ensures.value (c.has_phase.ensures ∙ ap (λ (ps : List PhaseItem). has_phase ps c.args.phase) c.phases.ensures.value) c.if-not-has_phase.true c.refuse.ensures

pub returns-clause-turn : goal.returns-clause-turn
returns-clause-turn g c =
    phase_there c.args.session.now.config c.config.result.now c.args.number c.args.phase c.args.session.now.store c.has_phase.result _ _ c.phase_diagrams.result c.config.ensures.value (c.has_phase.ensures ∙ ap (λ (ps : List PhaseItem). has_phase ps c.args.phase) c.phases.ensures.value) c.if-not-has_phase.false c.phase_diagrams.ensures.turn

pub returns-clause-still : goal.returns-clause-still
returns-clause-still g c = phase_still c.args.session.now.config c.config.result.now c.args.phase c.has_phase.result _ _ c.config.ensures.value (c.has_phase.ensures ∙ ap (λ (ps : List PhaseItem). has_phase ps c.args.phase) c.phases.ensures.value) c.if-not-has_phase.false
