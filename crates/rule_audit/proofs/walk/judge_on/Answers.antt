use Rattle.std.proofs.Common.{arith, ◌≡◌, ◌+◌, ◌<◌, ◌≤◌, true, get_or}
use Rattle.gap_map.specs.Stretches.{known_at}
use Rattle.board.specs.Logs.{no_row}
use Rattle.rule_audit.proofs.Tenths.{cut_further}
use Rattle.rule_audit.proofs.Walking.{on_further, on_join, on_over, on_start, on_tenth}
use Rattle.rule_audit.proofs.walk.judge_on.Goals as goal

pub returns-then-at-to-clause-lines : goal.returns-then-at-to-clause-lines
returns-then-at-to-clause-lines c = λ e is.
    let h = c.args.hour.now in
    let (y, low, high, cut, added) = c.tenths.invariant in
    let past : c.args.to ≤ (get_or h.rows.now c.tenths.next no_row).at = c.if-at-to.true in
    on_further h e c.requires.ready.rises true c.args.from y c.args.to c.tenths.next c.args.lines.now.items c.tenths.lines.items high (c.requires.within e is) (λ t le lt. c.requires.known t (omega arith) lt) cut (λ lt. past) (added e is)

pub tenths-init : goal.tenths-init
tenths-init c =
    let h = c.args.hour.now in
    let (le, none, cuts) = c.pass_over-next.ensures in
    let (y, low, high, cut) = cuts c.args.from c.requires.range c.requires.first in (
      y,
      low,
      high,
      cut,
      λ e is.
          let top = c.requires.within e is in
          on_over h e c.requires.ready.rises true c.args.from c.args.from y c.args.first c.pass_over-next.result c.args.lines.now.items c.args.lines.now.items low (omega arith) (λ t a b. c.requires.known t a (omega arith)) c.requires.first cut none (on_start h e c.requires.ready.rises true c.args.from c.args.lines.now.items),
    )

pub tenths-preserved : goal.tenths-preserved
tenths-preserved c =
    let h = c.args.hour.now in
    let (y, low, high, cut, added) = c.tenths.invariant in
    let at = (get_or h.rows.now c.tenths.next no_row).at in
    let less : at < c.args.to = c.if-at-to.false in
    let from : y ≤ at = cut.2 c.tenths.next (omega arith) c.tenths-test.true in
    let known : known_at h.stretches.now at ≡ true = c.requires.known at (omega arith) less in
    let (ahead, none, cuts) = c.pass_over-next-in-tenths.ensures in
    let (z, over, under, later) = cuts (at + 1) (omega arith) c.until-end.ensures in (
      z,
      omega arith,
      under,
      later,
      λ e is.
          let top = c.requires.within e is in
          let old = c.args.lines.now.items in
          let now = c.tenths.lines.items in
          let new = c.judge_tenth.new.lines.items in
          let there = on_further h e c.requires.ready.rises true c.args.from y at c.tenths.next old now from (omega arith) (λ t le lt. c.requires.known t (omega arith) (omega arith)) cut (λ lt. omega arith) (added e is) in
          let judged = on_join h e c.requires.ready.rises true true true c.args.from at (at + 1) old now new there (on_tenth h e c.requires.ready.rises true at now new (omega arith) known (c.in_ok-judge_tenth.ensures e is)) in
          on_over h e c.requires.ready.rises true c.args.from (at + 1) z c.until-end.result c.pass_over-next-in-tenths.result old new over (omega arith) (λ t a b. c.requires.known t (omega arith) (omega arith)) c.until-end.ensures later none judged,
    )

pub returns-clause-lines : goal.returns-clause-lines
returns-clause-lines c = λ e is.
    let h = c.args.hour.now in
    let (y, low, high, cut, added) = c.tenths.invariant in
    on_further h e c.requires.ready.rises true c.args.from y c.args.to c.tenths.next c.args.lines.now.items c.tenths.lines.items high (c.requires.within e is) (λ t le lt. c.requires.known t (omega arith) lt) cut (λ lt. absurd (let past = c.tenths-test.false in omega arith)) (added e is)

pub returns-then-at-to-clause-cut : goal.returns-then-at-to-clause-cut
returns-then-at-to-clause-cut c =
    let h = c.args.hour.now in
    let (y, low, high, cut, added) = c.tenths.invariant in
    let past : c.args.to ≤ (get_or h.rows.now c.tenths.next no_row).at = c.if-at-to.true in
    cut_further h.rows.now y c.args.to c.tenths.next c.requires.ready.rises high (λ lt. past) cut

pub judge_tenth-requires-clause-first : goal.judge_tenth-requires-clause-first
judge_tenth-requires-clause-first c =
    let h = c.args.hour.now in
    let (y, low, high, cut, added) = c.tenths.invariant in
    let at = (get_or h.rows.now c.tenths.next no_row).at in
    let from : y ≤ at = cut.2 c.tenths.next (omega arith) c.tenths-test.true in
    cut_further h.rows.now y at c.tenths.next c.requires.ready.rises from (λ lt. omega arith) cut

pub pass_over-next-requires-clause-known : goal.pass_over-next-requires-clause-known
pass_over-next-requires-clause-known c = λ k a b less. c.requires.known (get_or c.args.hour.now.rows.now k no_row).at (c.requires.first.2 k a b) less

pub pass_over-next-requires-in-tenths-clause-known : goal.pass_over-next-requires-in-tenths-clause-known
pass_over-next-requires-in-tenths-clause-known c = λ k a b less.
    let (y, low, high, cut, added) = c.tenths.invariant in
    let from = cut.2 c.tenths.next (omega arith) c.tenths-test.true in
    let later = c.until-end.ensures.2 k a b in
    c.requires.known (get_or c.args.hour.now.rows.now k no_row).at (omega arith) less
