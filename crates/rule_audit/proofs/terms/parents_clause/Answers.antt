use Rattle.std.proofs.Common.{◌≡◌, [], ◌∷◌, refl}
use Rattle.event_codes.specs.declared.channels.Kind.TheVariants as kinds
use Rattle.channel_tables.specs.OverlapTable as overlap
use Rattle.rule_audit.specs.Rules.{others, parents_terms}
use Rattle.rule_audit.proofs.Placing.{parents_clause}
use Rattle.rule_audit.proofs.terms.parents_clause.Goals as goal

pub clause_of-requires : goal.clause_of-requires
clause_of-requires c =
    let one = c.term.ensures (others kinds.Overlap (overlap.green ∷ [])) c.no_green.ensures in
    let all : c.push_parents.new.terms.items ≡ parents_terms c.args.config.now.specs c.args.overlap.now = rw (c.in_ok-push_parents.ensures, c.in_ok-push.ensures.items, c.new-terms.ensures.items, one) refl in
    rw all (parents_clause c.args.config.now c.requires.sound c.args.overlap.now c.requires.overlap)
