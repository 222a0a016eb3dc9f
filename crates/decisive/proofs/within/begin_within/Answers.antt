use Rattle.std.proofs.Common.{arith, refl, inr}
use Rattle.rule_audit.proofs.Walking.{if_ok}
use Rattle.decisive.specs.Tries.{IsBeginOf, NoBeginOf}
use Rattle.decisive.proofs.Judging.{none_map}
use Rattle.decisive.proofs.within.begin_within.Goals as goal

pub begins_by-requires-clause-early : goal.begins_by-requires-clause-early
begins_by-requires-clause-early c = let (t, is, cut, grow) = c.requires.told in is.place.first

pub begins_by-requires-clause-told : goal.begins_by-requires-clause-told
begins_by-requires-clause-told c = let (t, is, cut, grow) = c.requires.told in (c.args.first, t, is, (omega arith, inr refl), cut)

pub nearest_begin-requires-clause-told : goal.nearest_begin-requires-clause-told
nearest_begin-requires-clause-told c = let (t, is, cut, grow) = c.requires.told in (c.args.first, t, is, cut, grow)

pub returns-then-not-branch : goal.returns-then-not-branch
returns-then-not-branch c = λ begins. let t = c.in_ok-begins_by.ensures.1 begins in absurd (cc)

pub returns : goal.returns
returns c =
    let q = c.args.question.now in
    let told = c.args.told.now in
    if_ok c.nearest_begin.result _ _ (λ r h. none_map r _ (NoBeginOf q told c.args.last c.args.first) (IsBeginOf q told c.args.last) (λ none begins. none) h) c.nearest_begin.ensures
