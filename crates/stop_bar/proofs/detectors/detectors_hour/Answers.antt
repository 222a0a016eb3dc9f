use Rattle.std.proofs.Common.{◌≡◌, ap, ◌∙◌, subst, ℕ, List, arith, take, take_all, get_or, length}
use Rattle.std.proofs.lemmas.List.{take_more}
use Rattle.signal_log.specs.Log.{log_of}
use Rattle.detector_state.specs.declared.part.Part.{Part}
use Rattle.detector_state.specs.Hours.{IsSwitched}
use Rattle.stop_bar.specs.declared.bars.StopBar.{StopBar}
use Rattle.stop_bar.specs.All.{IsPlaceOf, bars_of}
use Rattle.stop_bar.proofs.Places.{each_more}
use Rattle.stop_bar.proofs.ToldAt.{told_at}
use Rattle.stop_bar.proofs.detectors.detectors_hour.Goals as goal

pub loop-bar-preserved : goal.loop-bar-preserved
loop-bar-preserved c = λ s is.
    let all = bars_of c.args.config.now.approaches in
    let items : c.deref-bar-items.result.now ≡ all = c.deref-bar-items.ensures.value ∙ c.in_ok-list.ensures.bars in
    let size : length c.deref-bar-items.result.now ≡ length all = ap (λ (xs : List StopBar). length xs) items in
    let test = c.loop-bar-test.true in
    let d : StopBar = record { phase = 0; detector = 0; high = record { num = 0; den = 0 } } in
    let j = c.loop-bar.bar-index in
    let one = get_or c.deref-bar-items.result.now j d in
    let parts = c.in_ok-detector_hour.field-0 in
    let own : one ≡ get_or all j d = ap (λ (xs : List StopBar). get_or xs j d) items in
    let ToldOf : StopBar → List Part → Type 0 = λ (b : StopBar) (parts : List Part). (i : ℕ) → IsPlaceOf c.args.config.now b i → IsSwitched (log_of c.args.config.now.specs s) i c.args.hour parts in
    let told : ToldOf (get_or all j d) parts = subst (λ (z : StopBar). ToldOf z parts) own (λ i place. told_at c.args.config.now s c.args.hour one.detector i c.args.courses.now.rows c.args.courses.now.stretches c.args.pasts.now parts is place (c.in_ok-detector_hour.ensures i place)) in
    rw (take_more all j d (omega arith), c.in_ok-push.ensures.items) (each_more ToldOf (take j all) c.loop-bar.told.items (get_or all j d) parts (c.loop-bar.invariant s is) told)

pub returns : goal.returns
returns c = λ s is.
    let all = bars_of c.args.config.now.approaches in
    let items : c.deref-bar-items.result.now ≡ all = c.deref-bar-items.ensures.value ∙ c.in_ok-list.ensures.bars in
    let size : length c.deref-bar-items.result.now ≡ length all = ap (λ (xs : List StopBar). length xs) items in
    let ends = c.loop-bar-test.false in
    rw (take_all c.loop-bar.bar-index all (omega arith)) at (c.loop-bar.invariant s is)
