use Rattle.std.proofs.Common.{arith, refl, rules, subst, ◌≡◌, ◌<◌, length, ℕ}
use Rattle.rule_audit.proofs.Walking.{if_ok}
use Rattle.decisive.specs.Tries.{IsNearest, NoneDo, row_count}
use Rattle.decisive.proofs.Judging.{none_map}
use Rattle.decisive.proofs.Nearest.{none_of, trail_begin}
use Rattle.decisive.proofs.search.nearest.Goals as goal

pub loop-i-init : goal.loop-i-init
loop-i-init c = trail_begin c.args.aim.now c.args.question.now c.args.told.now (record { found = c.new.result; tried = 0 }) c.new.ensures.items refl

pub loop-i-preserved : goal.loop-i-preserved
loop-i-preserved c = rw c.in-None.is at c.in_ok-hit.ensures

pub try_last-requires-clause-trail : goal.try_last-requires-clause-trail
try_last-requires-clause-trail c =
    let over = c.loop-i.auto.i-end in
    let count = c.row_count-i-end.ensures in
    (c.loop-i.i, omega arith, c.loop-i.invariant)

pub try_last-requires-clause-untried : goal.try_last-requires-clause-untried
try_last-requires-clause-untried c =
    let size : c.len.result ≡ length c.loop-i.trail.found.items = search rules in
    let some = c.loop-i.invariant.some in
    let differ = c.if-trail-len.false in
    let less : c.loop-i.trail.tried < length c.loop-i.trail.found.items = grind arith in
    less

pub returns-in-Some : goal.returns-in-Some
returns-in-Some c = rw c.in-Some.is at c.in_ok-hit.ensures

pub returns-then-trail-len : goal.returns-then-trail-len
returns-then-trail-len c =
    let size : c.len.result ≡ length c.loop-i.trail.found.items = search rules in
    let over = c.loop-i.auto.i-end in
    let end = c.loop-i-test.false in
    let count = c.row_count-i-end.ensures in
    let same = c.if-trail-len.true in
    let all : c.loop-i.i ≡ row_count c.args.aim.now c.args.told.now = omega arith in
    subst (λ (n : ℕ). NoneDo c.args.aim.now c.args.question.now c.args.told.now n) all (none_of c.args.aim.now c.args.question.now c.args.told.now c.loop-i.trail c.loop-i.i c.loop-i.invariant (λ k lt. c.loop-i.invariant.none k (omega arith)))

pub returns : goal.returns
returns c =
    let over = c.loop-i.auto.i-end in
    let end = c.loop-i-test.false in
    let count = c.row_count-i-end.ensures in
    let all : c.loop-i.i ≡ row_count c.args.aim.now c.args.told.now = omega arith in
    if_ok c.try_last.result _ _ (λ r h. none_map r _ (NoneDo c.args.aim.now c.args.question.now c.args.told.now (row_count c.args.aim.now c.args.told.now)) (IsNearest c.args.aim.now c.args.question.now c.args.told.now) (λ none. subst (λ (n : ℕ). NoneDo c.args.aim.now c.args.question.now c.args.told.now n) all (none_of c.args.aim.now c.args.question.now c.args.told.now c.loop-i.trail c.loop-i.i c.loop-i.invariant none)) h) c.try_last.ensures
