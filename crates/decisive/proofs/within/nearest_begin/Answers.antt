use Rattle.std.proofs.Common.{arith, refl, inl, inr}
use Rattle.rule_audit.proofs.Walking.{if_ok}
use Rattle.decisive.specs.Tries.{Begins, IsBeginOf, NoBeginRow}
use Rattle.decisive.proofs.Judging.{both_map}
use Rattle.decisive.proofs.within.nearest_begin.Goals as goal

pub begins_by-requires-clause-early : goal.begins_by-requires-clause-early
begins_by-requires-clause-early c = omega arith

pub begins_by-requires-clause-told : goal.begins_by-requires-clause-told
begins_by-requires-clause-told c = let (f, t, is, cut, grow) = c.requires.told in (f, t, is, (is.place.first, inl is.place.is_known), cut)

pub returns-then-branch : goal.returns-then-branch
returns-then-branch c = inl (refl, c.in_ok-begins_by.ensures.0 (rw c.if-branch.true refl))

pub returns : goal.returns
returns c =
    let q = c.args.question.now in
    let told = c.args.told.now in
    let not_here : Begins q told c.args.last q.at → ⊥ = λ b. let t = c.in_ok-begins_by.ensures.1 b in absurd (cc) in
    if_ok c.last_begin.result _ _ (λ r h. both_map r (NoBeginRow q told c.args.last) _ _ (IsBeginOf q told c.args.last) (λ none. (not_here, none)) (λ u row. inr (not_here, row)) h) c.last_begin.ensures
