use Rattle.std.proofs.Common.{arith, refl, ◌+◌, ◌-◌, ◌≡◌, length, length-drop, take, drop}
use Rattle.std.proofs.lemmas.Bool.{false≢true}
use Rattle.std.proofs.lemmas.List.{take_all}
use Rattle.board.proofs.Verdicts.{apart_turn, apart_not, apart_all, clash}
use Rattle.board.proofs.clause.are_apart.Goals as goal

pub loop-i-init : goal.loop-i-init
loop-i-init c = λ a. a

pub returns-then-has_spec : goal.returns-then-has_spec
returns-then-has_spec c =
    let terms = c.args.terms.now in
    let i = c.loop-i.i in
    let size = length-drop (i + 1) terms in
    let tail : take (length terms - (i + 1)) (drop (i + 1) terms) ≡ drop (i + 1) terms = take_all (length terms - (i + 1)) (drop (i + 1) terms) (omega arith) in
    let later = rw tail at (c.has_spec.ensures.0 c.if-has_spec.true) in
    ((λ h. absurd (false≢true h)), λ a. absurd (apart_not terms i c.index-terms-i.result c.loop-i-test.true later a))

pub loop-i-preserved : goal.loop-i-preserved
loop-i-preserved c =
    let terms = c.args.terms.now in
    let i = c.loop-i.i in
    let size = length-drop (i + 1) terms in
    let tail : take (length terms - (i + 1)) (drop (i + 1) terms) ≡ drop (i + 1) terms = take_all (length terms - (i + 1)) (drop (i + 1) terms) (omega arith) in
    apart_turn terms i c.index-terms-i.result c.loop-i-test.true (λ h. clash c.has_spec.result (c.has_spec.ensures.1 (rw tail h)) c.if-has_spec.false) c.loop-i.invariant

pub returns : goal.returns
returns c = ((λ _. apart_all c.args.terms.now c.loop-i.i (omega arith) c.loop-i.invariant), λ _. refl)
