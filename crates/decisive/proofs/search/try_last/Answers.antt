use Rattle.std.proofs.Common.{arith, refl, rules, sym, subst, ◌≡◌, ◌-◌, ℕ, length}
use Rattle.decisive.specs.Tries.{DoesAt, IsNearest, IsOwnAt, found_at}
use Rattle.decisive.proofs.Nearest.{nearest_of, none_nearer, same_found}
use Rattle.decisive.proofs.search.try_last.Goals as goal

pub does_at-requires-clause-within : goal.does_at-requires-clause-within
does_at-requires-clause-within c =
    let (n, le, is) = c.requires.trail in
    let some = c.requires.untried in
    let size : c.len.result ≡ length c.args.trail.now.found.items = search rules in
    let here = same_found c.args.aim.now c.args.question.now c.args.told.now c.args.trail.now (c.len.result - 1) c.index-last.result.now c.index-last.ensures (omega arith) in
    let within = is.within (c.len.result - 1) (omega arith) in
    omega arith

pub does_at-requires-clause-own : goal.does_at-requires-clause-own
does_at-requires-clause-own c =
    let (n, le, is) = c.requires.trail in
    let some = c.requires.untried in
    let size : c.len.result ≡ length c.args.trail.now.found.items = search rules in
    let here = same_found c.args.aim.now c.args.question.now c.args.told.now c.args.trail.now (c.len.result - 1) c.index-last.result.now c.index-last.ensures (omega arith) in
    subst (λ (i : ℕ). IsOwnAt c.args.aim.now c.args.question.now c.args.told.now i) (sym here) (is.own (c.len.result - 1) (omega arith))

pub halve-requires-clause-last : goal.halve-requires-clause-last
halve-requires-clause-last c k e =
    let some = c.requires.untried in
    let size : c.len.result ≡ length c.args.trail.now.found.items = search rules in
    let here = same_found c.args.aim.now c.args.question.now c.args.told.now c.args.trail.now (c.len.result - 1) c.index-last.result.now c.index-last.ensures (omega arith) in
    let last : c.len.result - 1 ≡ k = omega arith in
    subst (λ (m : ℕ). DoesAt c.args.aim.now c.args.question.now c.args.told.now (found_at c.args.trail.now m)) last (subst (λ (i : ℕ). DoesAt c.args.aim.now c.args.question.now c.args.told.now i) here (c.in_ok-does_at.ensures.0 (rw c.if-not-branch.false refl)))

pub returns-then-not-branch : goal.returns-then-not-branch
returns-then-not-branch c k lt =
    let (n, le, is) = c.requires.trail in
    let some = c.requires.untried in
    let size : c.len.result ≡ length c.args.trail.now.found.items = search rules in
    let here = same_found c.args.aim.now c.args.question.now c.args.told.now c.args.trail.now (c.len.result - 1) c.index-last.result.now c.index-last.ensures (omega arith) in
    none_nearer c.args.aim.now c.args.question.now c.args.told.now c.args.trail.now n (c.len.result - 1) c.requires.sought le is (omega arith) (λ d. let t = c.in_ok-does_at.ensures.1 (subst (λ (i : ℕ). DoesAt c.args.aim.now c.args.question.now c.args.told.now i) (sym here) d) in absurd (cc)) k (omega arith)

pub returns : goal.returns
returns c =
    let (n, le, is) = c.requires.trail in
    let first = c.in_ok-first.ensures in
    let here = same_found c.args.aim.now c.args.question.now c.args.told.now c.args.trail.now c.in_ok-first.first c.index.result.now c.index.ensures first.0 in
    subst (λ (i : ℕ). IsNearest c.args.aim.now c.args.question.now c.args.told.now i) (sym here) (nearest_of c.args.aim.now c.args.question.now c.args.told.now c.args.trail.now n c.in_ok-first.first le is first)
