use Rattle.std.proofs.Common.{◌≡◌, ap, sym, ◌∙◌, ℕ, true, Option, Some, None, arith}
use Rattle.sig_base.specs.Numbers.{has_phase}
use Rattle.ring_config.specs.declared.items.Approach.{Approach}
use Rattle.stop_bar.specs.declared.bars.StopBar.{StopBar}
use Rattle.stop_bar.specs.All.{bar_with}
use Rattle.stop_bar.proofs.Places.{all_one, bar_phase, given_none, given_one}
use Rattle.stop_bar.proofs.bars.stop_bars.Goals as goal
use Rattle.stop_bar.proofs.bars.stop_bars.Goals.{in-Some+in_ok-push, in_default}

pub loop-place-preserved : goal.loop-place-preserved
loop-place-preserved c =
    let all = c.args.config.now.approaches in
    let i = c.loop-place.place in
    let a = c.approach_of.result.now in
    let at = c.approach_of.ensures.approach a in
    let count = c.approach_count-place-end.ensures.value in
    let test = c.loop-place-test.true in
    let given : Approach → Option StopBar = λ (x : Approach). bar_with x x.stop_bar in
    let ph : StopBar → Type 0 = λ (b : StopBar). has_phase c.args.config.now.phases b.phase ≡ true in
    elim c.match-bar_of.branch [
      | in-Some+in_ok-push w ↦
          let b = w.in-Some.bar in
          let here : bar_with a a.stop_bar ≡ Some b = sym c.bar_of.ensures ∙ w.in-Some.is in
          let e = ap given (sym at) ∙ here in
          let p : ph b = ap (λ (n : ℕ). has_phase c.args.config.now.phases n) (bar_phase a a.stop_bar b here) ∙ c.approach_of.ensures.phase in
          rw w.bars-is (record {
            bars = given_one given all i a b c.loop-place.bars.items w.push.new.self.items (omega arith) c.loop-place.invariant.bars e w.in_ok-push.ensures.items;
            phases = all_one ph c.loop-place.bars.items w.push.new.self.items b c.loop-place.invariant.phases p w.in_ok-push.ensures.items;
          })
      | in_default w ↦
          let e : given a ≡ None = sym c.bar_of.ensures ∙ w.in_default.is in
          rw w.bars-is (record {
            bars = given_none given all i a c.loop-place.bars.items (omega arith) c.loop-place.invariant.bars (ap given (sym at) ∙ e);
            phases = c.loop-place.invariant.phases;
          })
    ]
