use Rattle.std.proofs.Common.{◌≡◌, refl}
use Rattle.event_codes.specs.declared.channels.Kind.TheVariants as kinds
use Rattle.rule_audit.specs.Rules.{conflict_terms, others, served}
use Rattle.rule_audit.proofs.Placing.{conflict_clause}
use Rattle.rule_audit.proofs.terms.conflict_clause.Goals as goal

pub clause_of-requires : goal.clause_of-requires
clause_of-requires c =
    let one = c.term.ensures (others kinds.Phase served) c.not_served.ensures in
    let two = c.term-2.ensures (others kinds.Phase served) c.not_served-2.ensures in
    let all : c.push-2.new.self.items ≡ conflict_terms c.args.config.now.specs c.args.a c.args.b = rw (c.in_ok-push-2.ensures.items, c.in_ok-push.ensures.items, c.new-terms.ensures.items, one, two) refl in
    rw all (conflict_clause c.args.config.now c.requires.sound c.args.a c.args.b c.requires.conflict)
