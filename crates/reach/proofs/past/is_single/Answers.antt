use Rattle.std.proofs.Common.{arith, refl, subst, ◌∙◌, ◌≡◌, [], length, get_or}
use Rattle.std.proofs.lemmas.Bool.{false≢true}
use Rattle.std.proofs.lemmas.List.{get_or_default}
use Rattle.span_set.specs.Spans.{AreRanges}
use Rattle.reach.specs.Single.{sets_of}
use Rattle.reach.proofs.States.{lists_same}
use Rattle.reach.proofs.Alone.{only_length, part_differs, same_states}
use Rattle.reach.proofs.past.is_single.Goals as goal

pub returns-then-not-is_part-clause-states : goal.returns-then-not-is_part-clause-states
returns-then-not-is_part-clause-states c =
    let k = c.loop-colour.colour in
    let here : c.index-sets-colour.result ≡ get_or c.args.sets.now k [] = c.index-sets-colour.is ∙ get_or_default c.args.sets.now k c.index-sets-colour.result [] c.loop-colour-test.true in
    (λ h. absurd (false≢true h), λ (l, h). absurd (part_differs c.args.sets.now c.args.one k c.requires (subst AreRanges here c.is_part.ensures.ordered) (λ e. false≢true (c.if-not-is_part.ensures.value.1 (here ∙ e))) h))

pub returns-clause-value : goal.returns-clause-value
returns-clause-value c =
    let len : length c.args.sets.now ≡ length (sets_of c.args.one) = (let a = c.if-sets-one.false in let b = only_length c.args.one.colours c.args.one.colour c.args.one.entry in omega arith) in
    let over = c.loop-colour-test.false in
    (λ _. lists_same c.args.sets.now (sets_of c.args.one) len (λ k h. c.loop-colour.invariant k (omega arith)), λ _. refl)

pub returns-clause-states : goal.returns-clause-states
returns-clause-states c =
    let len : length c.args.sets.now ≡ length (sets_of c.args.one) = (let a = c.if-sets-one.false in let b = only_length c.args.one.colours c.args.one.colour c.args.one.entry in omega arith) in
    let over = c.loop-colour-test.false in
    let same = lists_same c.args.sets.now (sets_of c.args.one) len (λ k h. c.loop-colour.invariant k (omega arith)) in
    (λ _. (len, same_states c.args.sets.now (sets_of c.args.one) same), λ _. refl)
