use Rattle.std.proofs.Common.{sym, subst, arith}
use Rattle.board.specs.declared.clause.Term.{Term}
use Rattle.filling_pair.specs.Asks.{IsTermOf}
use Rattle.filling_pair.proofs.Growing.{grow_on}
use Rattle.filling_pair.proofs.Termed.{none_more, some_holds, term_at}
use Rattle.filling_pair.proofs.pair.clause_keeps.Goals as goal

pub strands_holding-requires-clause-one : goal.strands_holding-requires-clause-one
strands_holding-requires-clause-one g c =
    let lt = c.loop-i-test.true in
    subst (λ (y : Term). IsTermOf y c.args.terms.now) (sym c.index-terms-i.is) (term_at c.args.terms.now c.loop-i.i c.index-terms-i.result lt)

pub loop-i-preserved : goal.loop-i-preserved
loop-i-preserved g c =
    let none = rw c.in_default.is at c.in_ok-found.ensures.shows in
    record {
      none = none_more c.args.specs.now c.args.store.now c.args.line.now c.args.terms.now c.requires c.loop-i.i c.index-terms-i.result c.index-terms-i.result c.loop-i-test.true c.index-terms-i.is none c.loop-i.invariant.none;
      grow = grow_on c.args.reads.now c.loop-i.reads c.strands_holding.new.reads c.loop-i.invariant.grow c.in_ok-found.ensures.grow;
    }

pub unreachable-requires : goal.unreachable-requires
unreachable-requires g c =
    let end = c.loop-i-test.false in
    some_holds c.args.specs.now c.args.store.now c.args.line.now c.args.terms.now c.requires (λ k d lt. c.loop-i.invariant.none k d (omega arith))
