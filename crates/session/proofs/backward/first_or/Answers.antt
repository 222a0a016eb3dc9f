use Rattle.std.proofs.Common.{arith, refl, sym, ◌≡◌, ◌∙◌, ◌<◌, inl, inr, true, false, length}
use Rattle.std.proofs.lemmas.Bool.{cases_lt}
use Rattle.std.proofs.lemmas.List.{get_or_default}
use Rattle.hour_work.proofs.PatchLaws.{patched-at, patched-past}
use Rattle.session.proofs.backward.first_or.Goals as goal

pub returns-in-Some : goal.returns-in-Some
returns-in-Some c = λ d.
    let kept = c.args.kept.now in
    let items = c.args.fresh.now.items in
    let point = c.args.point in
    let ok = c.args.fresh.now.ok.0 in
    let v = rw c.in-Some.is at c.front.ensures.variant in
    let lt = v.0 refl in
    let some : 0 < length items = omega arith in
    let le = c.requires.there in
    c.in-Some.ensures.lookup ∙ (get_or_default items 0 c.in-Some.first.now d some ∙ sym (patched-at kept point items point 0 d (omega arith) (omega arith) some))

pub returns-in-None : goal.returns-in-None
returns-in-None c = λ d.
    let kept = c.args.kept.now in
    let items = c.args.fresh.now.items in
    let point = c.args.point in
    let there = c.requires.there in
    let ok = c.args.fresh.now.ok.0 in
    let v = rw c.in-None.is at c.front.ensures.variant in
    let none : length items ≡ 0 = elim (cases_lt 0 (length items)) [
      | inl lt ↦ let bad : false ≡ true = v.1 (omega arith) in absurd (cc)
      | inr ge ↦ omega arith
    ] in
    c.index-kept-point.is ∙ (get_or_default kept point c.index-kept-point.result d there ∙ sym (patched-past kept point items point d (omega arith) (omega arith)))
