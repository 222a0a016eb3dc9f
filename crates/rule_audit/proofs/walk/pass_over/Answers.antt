use Rattle.std.proofs.Common.{arith, ◌≤◌, ◌≡◌, ℕ, length, subst, sym}
use Rattle.rule_audit.specs.Pass.{IsCutAt}
use Rattle.rule_audit.proofs.Tenths.{over_cut, start_cut}
use Rattle.rule_audit.proofs.walk.pass_over.Goals as goal

pub returns-then-ruled-hour : goal.returns-then-ruled-hour
returns-then-ruled-hour c =
    let h = c.args.hour.now in
    let next = c.next_ruled-ruled.ensures in
    let start = c.start_of.ensures in
    let within = start.within in
    (start.from, (λ k a b. next.none k a (omega arith)), λ y le cut. start_cut h.rows.now c.requires.ready.rises y c.args.to c.args.first le cut c.next_ruled-ruled.result c.start_of.result c.if-ruled-hour.true next.from next.before start)

pub returns : goal.returns
returns c =
    let h = c.args.hour.now in
    let next = c.next_ruled-ruled.ensures in
    let within = next.within in
    let n = c.next_ruled-ruled.result in
    let over : length h.rows.now ≤ n = c.if-ruled-hour.false in
    let all : n ≡ length h.rows.now = omega arith in
    (next.from, next.none, λ y le cut. subst (λ (j : ℕ). (z : ℕ) × (y ≤ z) × (z ≤ c.args.to) × IsCutAt h.rows.now z j) (sym all) (over_cut h.rows.now c.requires.ready.rises y c.args.to c.args.first le cut (λ k a b. next.before k a (omega arith))))
