use Rattle.std.proofs.Common.{ap, ℕ, ◌≡◌, [], List, arith, take, take_all, get_or, length}
use Rattle.std.proofs.lemmas.List.{take_more}
use Rattle.stop_bar.specs.Crossing.{Crossing}
use Rattle.stop_bar.specs.declared.bars.StopBar.{StopBar}
use Rattle.stop_bar.specs.Bars.{IsAtBar}
use Rattle.stop_bar.specs.All.{IsPlaceOf, bars_of}
use Rattle.stop_bar.proofs.Places.{each_more}
use Rattle.stop_bar.proofs.all.AtBars.start.Goals as goal

pub loop-place-init : goal.loop-place-init
loop-place-init c = λ log. rw c.new-bars.ensures.items tt

pub loop-place-preserved : goal.loop-place-preserved
loop-place-preserved c = λ log.
    let all = bars_of c.args.config.now.approaches in
    let size : length c.in_ok-list.list.items ≡ length all = ap (λ (xs : List StopBar). length xs) c.in_ok-list.ensures.bars in
    let test = c.loop-place-test.true in
    let d : StopBar = record { phase = 0; detector = 0; high = record { num = 0; den = 1 } } in
    let b = get_or all c.loop-place._place d in
    let AtOf : StopBar → Crossing → Type 0 = λ (b : StopBar) (at : Crossing). (i : ℕ) → IsPlaceOf c.args.config.now b i → IsAtBar log i c.args.config.now.phases b.phase [] 0 at in
    rw (take_more all c.loop-place._place d (omega arith), c.in_ok-push.ensures.items) (each_more AtOf (take c.loop-place._place all) c.loop-place.bars.items b c.start.result (c.loop-place.invariant log) (λ i place. c.start.ensures log i b.phase c.args.config.now.phases))

pub returns : goal.returns
returns c = λ log.
    let all = bars_of c.args.config.now.approaches in
    let size : length c.in_ok-list.list.items ≡ length all = ap (λ (xs : List StopBar). length xs) c.in_ok-list.ensures.bars in
    let ends = c.loop-place-test.false in
    rw (take_all c.loop-place._place all (omega arith)) at (c.loop-place.invariant log)
