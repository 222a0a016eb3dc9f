use Rattle.std.proofs.Common.{refl}
use Rattle.filling_pair.proofs.Termed.{both_told}
use Rattle.filling_pair.proofs.pair.pair_of.Goals as goal

pub returns-in-Conflict-clause-both : goal.returns-in-Conflict-clause-both
returns-in-Conflict-clause-both g c =
    both_told c.args.specs.now c.args.store.now c.args.line.now c.terms.result.now c.args.rule.now (rw (c.in-Conflict.is, c.terms.ensures.terms) (refl, refl)) c.clause_pair.result c.clause_pair.ensures.both

pub returns-in-Companion-clause-both : goal.returns-in-Companion-clause-both
returns-in-Companion-clause-both g c =
    both_told c.args.specs.now c.args.store.now c.args.line.now c.terms-in-Companion.result.now c.args.rule.now (rw (c.in-Companion.is, c.terms-in-Companion.ensures.terms) (refl, refl)) c.clause_pair-in-Companion.result c.clause_pair-in-Companion.ensures.both

pub returns-in-Parents-clause-both : goal.returns-in-Parents-clause-both
returns-in-Parents-clause-both g c =
    both_told c.args.specs.now c.args.store.now c.args.line.now c.terms-in-Parents.result.now c.args.rule.now (rw (c.in-Parents.is, c.terms-in-Parents.ensures.terms) (refl, refl)) c.clause_pair-in-Parents.result c.clause_pair-in-Parents.ensures.both
