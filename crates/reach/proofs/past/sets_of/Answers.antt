use Rattle.std.proofs.Common.{rules, arith, ap, subst, ◌∙◌, ◌≡◌, ◌∷◌, ◌++◌, [], pos, ◌+ℤ◌, ℕ, List, set, replicate, w64}
use Rattle.std.specs.Prelude.{FitsSigned}
use Rattle.std.proofs.lemmas.Int.{ints, to_z-of_z}
use Rattle.span_set.specs.declared.set.Span.{Span}
use Rattle.span_set.specs.Changes.{span}
use Rattle.span_set.specs.Spans.{AreRanges}
use Rattle.reach.proofs.Alone.{none_more, set_is, tenth_alone}
use Rattle.reach.proofs.past.sets_of.Goals as goal

pub loop-colour-preserved : goal.loop-colour-preserved
loop-colour-preserved c = c.in_ok-push.ensures.items ∙ (ap (λ (x : List Span). c.loop-colour.sets.items ++ x ∷ []) c.new.ensures ∙ (ap (λ (xs : List (List Span)). xs ++ [] ∷ []) c.loop-colour.invariant ∙ none_more c.loop-colour._colour))

pub returns : goal.returns
returns c =
    let n = c.args.one.colours in
    let last : c.loop-colour._colour ≡ n = (let a = c.loop-colour.auto._colour-end in let b = c.loop-colour-test.false in omega arith) in
    let items : c.loop-colour.sets.items ≡ replicate {A = List Span} n [] = c.loop-colour.invariant ∙ ap (λ (k : ℕ). replicate {A = List Span} k []) last in
    let f1 : FitsSigned w64 c.args.one.entry = search rules in
    let f2 : FitsSigned w64 (c.args.one.entry +ℤ pos 1) = search (rules, ints) in
    let ok = simp (to_z-of_z, f1, f2) at c.in_ok-add.ensures.ok in
    let are : AreRanges c.add.new.self = subst AreRanges c.set.view_is c.set.invariant in
    let new : c.add.new.self ≡ span c.args.one.entry (c.args.one.entry +ℤ pos 1) ∷ [] = set_is c.add.new.self c.args.one.entry are c.requires.low c.requires.high (λ x. tenth_alone c.args.one.entry x c.new-set.result c.add.new.self c.new-set.ensures ok) in
    ap (λ (ss : List (List Span)). set ss c.args.one.colour c.add.new.self) items ∙ ap (λ (x : List Span). set (replicate {A = List Span} n []) c.args.one.colour x) new
