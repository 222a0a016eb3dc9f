use Rattle.std.proofs.Common.{arith, sym, subst, refl, ◌≡◌, ℕ, get_or}
use Rattle.std.proofs.lemmas.List.{get_or_default}
use Rattle.decisive.specs.declared.parts.Part.{Part}
use Rattle.decisive.specs.Parts.{no_part}
use Rattle.decisive.specs.Tries.{PartBegins}
use Rattle.decisive.proofs.Judging.{one_more}
use Rattle.decisive.proofs.judge.begins_by.Goals as goal

pub returns-then-not-branch : goal.returns-then-not-branch
returns-then-not-branch c =
    let of : Part → Type 0 = λ p. PartBegins c.args.question.now c.args.told.now c.args.last c.args.tenth p in
    let here : get_or c.args.question.now.parts.now c.loop-i.i c.index-question-i.result ≡ get_or c.args.question.now.parts.now c.loop-i.i no_part = get_or_default c.args.question.now.parts.now c.loop-i.i c.index-question-i.result no_part c.loop-i-test.true in
    (λ bad. absurd (cc), λ all. let t = c.in_ok-part_begins.ensures.1 (subst of (sym here) (all c.loop-i.i c.loop-i-test.true)) in absurd (cc))

pub loop-i-preserved : goal.loop-i-preserved
loop-i-preserved c =
    let of : Part → Type 0 = λ p. PartBegins c.args.question.now c.args.told.now c.args.last c.args.tenth p in
    let here : get_or c.args.question.now.parts.now c.loop-i.i c.index-question-i.result ≡ get_or c.args.question.now.parts.now c.loop-i.i no_part = get_or_default c.args.question.now.parts.now c.loop-i.i c.index-question-i.result no_part c.loop-i-test.true in
    one_more (λ (k : ℕ). of (get_or c.args.question.now.parts.now k no_part)) c.loop-i.i c.loop-i.invariant (subst of here (c.in_ok-part_begins.ensures.0 (rw c.if-not-branch.false refl)))

pub returns : goal.returns
returns c = let end = c.loop-i-test.false in ((λ yes k lt. c.loop-i.invariant k (omega arith)), λ all. refl)
