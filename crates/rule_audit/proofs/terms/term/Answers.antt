use Rattle.std.proofs.Common.{refl}
use Rattle.rule_audit.specs.Rules.{is_in}
use Rattle.rule_audit.proofs.terms.term.Goals as goal

pub returns : goal.returns
unfolding is_in
returns c = λ cs e. rw (c.place_of.ensures, e) refl
