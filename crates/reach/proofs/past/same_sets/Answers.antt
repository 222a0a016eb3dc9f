use Rattle.std.proofs.Common.{rules, arith, ◌∙◌, refl, length, ◌≡◌, [], get_or}
use Rattle.std.proofs.lemmas.List.{get_or_default}
use Rattle.std.proofs.lemmas.Bool.{false≢true}
use Rattle.reach.specs.Runs.{state}
use Rattle.reach.proofs.States.{lists_same}
use Rattle.reach.proofs.past.same_sets.Goals as goal

pub returns-then-not-same-clause-states : goal.returns-then-not-same-clause-states
returns-then-not-same-clause-states c =
    let one = c.index-a-i.is ∙ get_or_default c.args.a.now c.loop-i.i c.index-a-i.result [] c.loop-i-test.true in
    let two : c.index-b-i.result ≡ get_or c.args.b.now c.loop-i.i [] = c.index-b-i.is ∙ get_or_default c.args.b.now c.loop-i.i c.index-b-i.result [] (let a = c.if-a-b.false in omega arith) in
    (λ h. absurd (false≢true h), λ (l, h). c.if-not-same.ensures.members.1 (λ e. rw (one, two) (h (state c.loop-i.i e))))

pub returns-clause-value : goal.returns-clause-value
returns-clause-value c =
    let len : length c.args.a.now ≡ length c.args.b.now = search rules in
    let all : c.loop-i.i ≡ length c.args.a.now = omega arith in
    (λ _. lists_same c.args.a.now c.args.b.now len (λ k h. c.loop-i.invariant k (omega arith)), λ _. refl)
