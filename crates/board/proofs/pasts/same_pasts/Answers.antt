use Rattle.std.proofs.Common.{rules, arith, refl, length, ◌≡◌, subst, List}
use Rattle.span_set.specs.declared.set.Span.{Span}
use Rattle.board.specs.Places.{AreSamePasts}
use Rattle.board.proofs.Starting.{same_sets}
use Rattle.board.proofs.pasts.same_pasts.Goals as goal

-- equal lists hold the same
same_of : (a b : List (List (List Span))) → a ≡ b → AreSamePasts a b
same_of a b e = subst (λ (x : List (List (List Span))). AreSamePasts a x) e (refl, λ i lt. (refl, λ s. (λ h. h, λ h. h)))

pub returns-clause-value : goal.returns-clause-value
returns-clause-value c =
    let len : length c.args.a.now ≡ length c.args.b.now = search rules in
    let all : c.loop-i.i ≡ length c.args.a.now = omega arith in
    (λ _. same_sets c.args.a.now c.args.b.now len (λ k h. c.loop-i.invariant k (omega arith)), λ _. refl)

pub returns-clause-states : goal.returns-clause-states
returns-clause-states c =
    let len : length c.args.a.now ≡ length c.args.b.now = search rules in
    let all : c.loop-i.i ≡ length c.args.a.now = omega arith in
    (λ _. same_of c.args.a.now c.args.b.now (same_sets c.args.a.now c.args.b.now len (λ k h. c.loop-i.invariant k (omega arith))), λ _. refl)
