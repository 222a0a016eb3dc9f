use Rattle.std.proofs.Common.{arith, refl, rules, sym, subst, ◌≡◌, ◌+◌, ◌-◌, ◌/◌, ℕ, length}
use Rattle.decisive.specs.Tries.{DoesAt, IsOwnAt, found_at}
use Rattle.decisive.proofs.Nearest.{none_nearer, same_found}
use Rattle.decisive.proofs.search.halve.Goals as goal

pub search-init : goal.search-init
search-init c =
    let (n, le, is) = c.requires.trail in
    let some = c.requires.untried in
    let size : c.len-high.result ≡ length c.args.trail.now.found.items = search rules in
    (omega arith, omega arith, c.requires.last (c.len-high.result - 1) (omega arith), is.none)

pub search-preserved-then-branch : goal.search-preserved-then-branch
search-preserved-then-branch c =
    let (l1, l2, does, none) = c.search.invariant in
    let test = c.search-test.true in
    let middle = c.search.low + (c.search.high - c.search.low) / 2 in
    let here = same_found c.args.aim.now c.args.question.now c.args.told.now c.args.trail.now middle c.index.result.now c.index.ensures (omega arith) in
    (omega arith, omega arith, subst (λ (i : ℕ). DoesAt c.args.aim.now c.args.question.now c.args.told.now i) here (c.in_ok-does_at.ensures.0 (rw c.if-branch.true refl)), none)

pub search-preserved : goal.search-preserved
search-preserved c =
    let (n, le, is) = c.requires.trail in
    let (l1, l2, does, none) = c.search.invariant in
    let test = c.search-test.true in
    let middle = c.search.low + (c.search.high - c.search.low) / 2 in
    let here = same_found c.args.aim.now c.args.question.now c.args.told.now c.args.trail.now middle c.index.result.now c.index.ensures (omega arith) in
    (omega arith, omega arith, does, λ k lt. none_nearer c.args.aim.now c.args.question.now c.args.told.now c.args.trail.now n middle c.requires.sought le is (omega arith) (λ d. let t = c.in_ok-does_at.ensures.1 (subst (λ (i : ℕ). DoesAt c.args.aim.now c.args.question.now c.args.told.now i) (sym here) d) in absurd (cc)) k (omega arith))

pub returns : goal.returns
returns c =
    let (l1, l2, does, none) = c.search.invariant in
    let test = c.search-test.false in
    let same : c.search.high ≡ c.search.low = omega arith in
    (omega arith, subst (λ (k : ℕ). DoesAt c.args.aim.now c.args.question.now c.args.told.now (found_at c.args.trail.now k)) same does, none)

pub does_at-requires-clause-within : goal.does_at-requires-clause-within
does_at-requires-clause-within c =
    let (n, le, is) = c.requires.trail in
    let (l1, l2, does, none) = c.search.invariant in
    let test = c.search-test.true in
    let middle = c.search.low + (c.search.high - c.search.low) / 2 in
    let here = same_found c.args.aim.now c.args.question.now c.args.told.now c.args.trail.now middle c.index.result.now c.index.ensures (omega arith) in
    let within = is.within middle (omega arith) in
    omega arith

pub does_at-requires-clause-own : goal.does_at-requires-clause-own
does_at-requires-clause-own c =
    let (n, le, is) = c.requires.trail in
    let (l1, l2, does, none) = c.search.invariant in
    let test = c.search-test.true in
    let middle = c.search.low + (c.search.high - c.search.low) / 2 in
    let here = same_found c.args.aim.now c.args.question.now c.args.told.now c.args.trail.now middle c.index.result.now c.index.ensures (omega arith) in
    subst (λ (i : ℕ). IsOwnAt c.args.aim.now c.args.question.now c.args.told.now i) (sym here) (is.own middle (omega arith))
