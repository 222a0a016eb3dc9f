use Rattle.std.proofs.Common.{inl, inr, pos, arith}
use Rattle.std.proofs.lemmas.Bool.{cases_Bool}
use Rattle.std.proofs.lemmas.Int.{ints}
use Rattle.span_set.specs.Spans.{is_member}
use Rattle.span_set.proofs.Sets.{member_test}
use Rattle.session.proofs.blanks.none_blanked.Goals as goal

pub returns : goal.returns
returns c = λ told x low high. elim (cases_Bool (is_member c.args.blanks.now (pos x))) [
  | inl in_it ↦
      let off = c.if-any_in.false in
      let some = c.any_in.ensures.1 (pos x, (member_test c.args.blanks.now (pos x)).0 in_it, omega (arith, ints), omega (arith, ints)) in
      absurd (cc)
  | inr none ↦ none
]
