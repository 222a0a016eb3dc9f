use Rattle.std.proofs.Common.{refl, ◌∙◌, sym, arith}
use Rattle.hour_pack.specs.Repeats.{HasRepeat}
use Rattle.hour_pack.proofs.RepeatFacts.{repeat-one, repeat-not, no_repeat-next, no_repeat-all}
use Rattle.hour_pack.proofs.OrderFacts.{rise-before}
use Rattle.hour_pack.proofs.repeats.any_repeat.Goals as goal

pub is_repeat-requires-clause-rise : goal.is_repeat-requires-clause-rise
is_repeat-requires-clause-rise c = rise-before _ _ 0 c.args.rows.now c.loop-i.i _ c.requires.rise (omega arith) (omega arith)

pub returns-then-is_repeat-clause-value : goal.returns-then-is_repeat-clause-value
returns-then-is_repeat-clause-value c =
    let found : HasRepeat c.args.rows.now = repeat-one c.args.rows.now c.loop-i.i _ (omega arith) (sym c.is_repeat.ensures ∙ c.if-is_repeat.true) in
    (λ _. found, λ _. refl)

pub returns-then-is_repeat-clause-none : goal.returns-then-is_repeat-clause-none
returns-then-is_repeat-clause-none c =
    let found : HasRepeat c.args.rows.now = repeat-one c.args.rows.now c.loop-i.i _ (omega arith) (sym c.is_repeat.ensures ∙ c.if-is_repeat.true) in
    (λ e. cc, λ none. absurd (repeat-not c.args.rows.now found none))

pub loop-i-preserved : goal.loop-i-preserved
loop-i-preserved c =
    no_repeat-next c.args.rows.now c.loop-i.i _ (omega arith) c.loop-i.invariant (sym c.is_repeat.ensures ∙ c.if-is_repeat.false)

pub returns-clause-value : goal.returns-clause-value
returns-clause-value c =
    (λ e. absurd cc, λ found. absurd (repeat-not c.args.rows.now found (no_repeat-all c.args.rows.now c.loop-i.i (omega arith) c.loop-i.invariant)))
