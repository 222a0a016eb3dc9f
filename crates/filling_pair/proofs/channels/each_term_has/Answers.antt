use Rattle.std.proofs.Common.{sym, ◌∙◌}
use Rattle.std.proofs.lemmas.Bool.{false≢true}
use Rattle.filling_pair.proofs.Judged.{have_end, have_stop, have_turn}
use Rattle.filling_pair.proofs.channels.each_term_has.Goals as goal

pub returns-then-not-has_strand : goal.returns-then-not-has_strand
returns-then-not-has_strand c =
    have_stop c.args.terms.now c.args.strands.now c.loop-term.term-index c.term-item.result c.loop-term-test.true c.term-item.is (λ has. absurd (false≢true (sym c.if-not-has_strand.true ∙ c.has_strand.ensures.1 has))) c.loop-term.invariant

pub loop-term-preserved : goal.loop-term-preserved
loop-term-preserved c =
    have_turn c.args.terms.now c.args.strands.now c.loop-term.term-index c.term-item.result c.loop-term-test.true c.term-item.is (c.has_strand.ensures.0 c.if-not-has_strand.false) c.loop-term.invariant

pub returns : goal.returns
returns c = have_end c.args.terms.now c.args.strands.now c.loop-term.term-index c.loop-term-test.false c.loop-term.invariant
