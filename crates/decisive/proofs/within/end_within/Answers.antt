use Rattle.std.proofs.Common.{arith, refl, inl, inr, ◌+◌}
use Rattle.rule_audit.proofs.Walking.{if_ok}
use Rattle.decisive.specs.Tries.{Ends, IsEndOf, NoEndOf, NoEndRow}
use Rattle.decisive.proofs.Judging.{both_map}
use Rattle.decisive.proofs.within.end_within.Goals as goal

pub ends_by-requires-clause-late : goal.ends_by-requires-clause-late
ends_by-requires-clause-late c = let (f, is, fits, grow) = c.requires.told in let last = is.place.last in omega arith

pub ends_by-requires-clause-told : goal.ends_by-requires-clause-told
ends_by-requires-clause-told c = let (f, is, fits, grow) = c.requires.told in (f, c.args.last + 1, is, fits, (omega arith, inr refl))

pub first_end-requires : goal.first_end-requires
first_end-requires c = let (f, is, fits, grow) = c.requires.told in record { told = (f, c.args.last + 1, is, fits, grow) }

pub returns-then-not-branch : goal.returns-then-not-branch
returns-then-not-branch c = λ ends. let t = c.in_ok-ends_by.ensures.1 ends in absurd (cc)

pub returns-then-branch : goal.returns-then-branch
returns-then-branch c = inl (refl, c.in_ok-ends_by-2.ensures.0 (rw c.if-branch.true refl))

pub returns : goal.returns
returns c =
    let q = c.args.question.now in
    let told = c.args.told.now in
    let start = c.args.start.now in
    let not_here : Ends start q told q.at → ⊥ = λ e. let t = c.in_ok-ends_by-2.ensures.1 e in absurd (cc) in
    if_ok c.first_end.result _ _ (λ r h. both_map r (NoEndRow start q told) (NoEndOf start q told c.args.last) _ (IsEndOf start q told) (λ none ends. (not_here, none)) (λ w row. inr (not_here, row)) h) c.first_end.ensures
