use Rattle.std.proofs.Common.{◌≡◌, [], ◌∷◌, refl}
use Rattle.event_codes.specs.declared.channels.Kind.TheVariants as kinds
use Rattle.channel_tables.specs.PedTable as ped
use Rattle.channel_tables.specs.PhaseTable as phase
use Rattle.rule_audit.specs.Rules.{companion_terms, others}
use Rattle.rule_audit.proofs.Placing.{companion_clause, ped_phase}
use Rattle.rule_audit.proofs.terms.companion_clause.Goals as goal

pub term-requires-2 : goal.term-requires-2
term-requires-2 c = ped_phase c.args.config.now c.requires.sound c.args.ped c.requires.ped

pub clause_of-requires : goal.clause_of-requires
clause_of-requires c =
    let one = c.term.ensures (others kinds.Ped (ped.walk ∷ [])) c.no_walk.ensures in
    let two = c.term-2.ensures (phase.on ∷ phase.green ∷ []) c.on_or_green.ensures in
    let all : c.push-2.new.self.items ≡ companion_terms c.args.config.now.specs c.args.ped = rw (c.in_ok-push-2.ensures.items, c.in_ok-push.ensures.items, c.new-terms.ensures.items, one, two) refl in
    rw all (companion_clause c.args.config.now c.requires.sound c.args.ped c.requires.ped)
