use Rattle.std.proofs.Common.{Option, subst}
use Rattle.arrival_measures.specs.declared.open.Open.{Open}
use Rattle.arrival_measures.specs.Steps.{IsUnderWay}
use Rattle.arrival_measures.proofs.Between.{given_before, given_within, not_begun}
use Rattle.arrival_measures.proofs.under_way.cycle_given.Goals as goal
use Rattle.arrival_measures.proofs.under_way.cycle_given.Goals.{in_default-via-in-Some+else-from-first, in_default-via-in_default}

pub returns-in-Some : goal.returns-in-Some
returns-in-Some c = λ known before end h.
    let h' = subst (λ (o : Option Open). IsUnderWay known c.args.phase c.args.detector before c.args.rows.now c.args.first end o c.args.from c.args.to) c.in-Some.is h in
    given_before known c.args.phase c.args.detector before c.args.rows.now c.args.first end c.args.from c.args.to c.in-Some.begun c.follow.result c.if-from-first.true c.follow.ensures h'

pub returns-in_default : goal.returns-in_default
returns-in_default c = λ known before end h. elim c.in_default.branch [
  | in_default-via-in-Some+else-from-first w ↦ given_within known c.args.phase c.args.detector before c.args.rows.now c.args.first end c.args.from c.args.to c.args.begun c.begin.result c.follow-in_default.result w.if-from-first.false c.begin.ensures c.follow-in_default.ensures h
  | in_default-via-in_default w ↦ given_within known c.args.phase c.args.detector before c.args.rows.now c.args.first end c.args.from c.args.to c.args.begun c.begin.result c.follow-in_default.result (not_begun known c.args.phase c.args.detector before c.args.rows.now c.args.first end c.args.from c.args.to c.args.begun w.in_default.not-Some h) c.begin.ensures c.follow-in_default.ensures h
]
