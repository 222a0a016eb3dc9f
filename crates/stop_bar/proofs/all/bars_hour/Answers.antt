use Rattle.std.proofs.Common.{ap, sym, ◌∙◌, subst, ◌≡◌, true, List, arith, take_all, get_or, length}
use Rattle.std.specs.Prelude.{All, slice_get}
use Rattle.sig_base.specs.Numbers.{has_phase}
use Rattle.stop_bar.specs.Crossing.{Crossing}
use Rattle.stop_bar.specs.declared.bars.StopBar.{StopBar}
use Rattle.stop_bar.specs.All.{bars_of}
use Rattle.stop_bar.proofs.AllBars.{one_more}
use Rattle.stop_bar.proofs.Places.{looked}
use Rattle.stop_bar.proofs.all.bars_hour.Goals as goal

pub loop-place-init : goal.loop-place-init
loop-place-init c = λ log before rows is told at. rw (c.new-ended.ensures.items, c.new-after.ensures.items) (record { over = tt; at = tt })

pub loop-place-preserved : goal.loop-place-preserved
loop-place-preserved c = λ log before rows is told at.
    let all = bars_of c.args.config.now.approaches in
    let items : c.deref-bar-items.result.now ≡ all = c.deref-bar-items.ensures.value ∙ c.in_ok-list.ensures.bars in
    let d : StopBar = record { phase = 0; detector = 0; high = record { num = 0; den = 0 } } in
    let b = get_or c.deref-bar-items.result.now c.loop-place.place d in
    let test = c.loop-place-test.true in
    let own : c.deref.result.now ≡ c.args.at.now = c.deref.ensures.value ∙ c.at.view_is in
    let size : length c.deref-bar-items.result.now ≡ length all = ap (λ (xs : List StopBar). length xs) items in
    let ph : StopBar → Type 0 = λ (b : StopBar). has_phase c.args.config.now.phases b.phase ≡ true in
    let all_ph : All ph c.deref-bar-items.result.now = subst (λ (xs : List StopBar). All ph xs) (sym c.deref-bar-items.ensures.value) c.in_ok-list.ensures.phases in
    let has : ph b = all_ph c.loop-place.place d test in
    one_more log c.args.config.now c.args.hour before rows c.args.cuts.now c.args.detectors.now c.args.at.now is told at c.loop-place.place d b (omega arith) (ap (λ (xs : List StopBar). get_or xs c.loop-place.place d) (sym items)) has
    c.loop-place.ended.items c.push.new.self.items c.loop-place.after.items c.push-in-loop-place.new.self.items (c.loop-place.invariant log before rows is told at) c.in_ok-over.over.ended.items c.in_ok-over.over.after (λ x parts e f. c.in_ok-over.ensures x parts (looked c.get-before.result c.deref.result.now c.loop-place.place x c.get-before.ensures.lookup.0 c.get-before.ensures.lookup.1 (ap (λ (xs : List Crossing). slice_get xs c.loop-place.place) own ∙ e)) (looked c.get.result c.args.detectors.now c.loop-place.place parts c.get.ensures.lookup.0 c.get.ensures.lookup.1 f)) c.in_ok-push.ensures.items c.in_ok-push-2.ensures.items

pub returns-clause-over : goal.returns-clause-over
returns-clause-over c = λ log before rows is told at.
    let all = bars_of c.args.config.now.approaches in
    let items : c.deref-bar-items.result.now ≡ all = c.deref-bar-items.ensures.value ∙ c.in_ok-list.ensures.bars in
    let ends = c.loop-place-test.false in
    let size : length c.deref-bar-items.result.now ≡ length all = ap (λ (xs : List StopBar). length xs) items in
    let done = rw (take_all c.loop-place.place all (omega arith)) at (c.loop-place.invariant log before rows is told at) in
    (done.over, done.at)
