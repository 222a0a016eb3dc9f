use Rattle.std.proofs.Common.{ℕ, true, false, ◌≡◌, sym, ◌∙◌, arith}
use Rattle.detector_state.proofs.Painting.{HasState, below_same, below_with, states_whole}
use Rattle.detector_state.proofs.colours.of_states.Goals as goal
use Rattle.detector_state.proofs.colours.of_states.Goals.{then-has_state, else-has_state}

pub loop-colour-preserved : goal.loop-colour-preserved
loop-colour-preserved g c = λ f lt early d.
    let P : ℕ → Type 0 = HasState c.args.before.now in
    let k = c.loop-colour.colour in
    let old = c.loop-colour.invariant f lt early d in
    let seen = c.has_state.ensures f lt early in
    elim c.if-has_state.branch [
      | then-has_state w ↦ rw w.mask-is (below_with P k d c.loop-colour.mask w.with-mask.result old (w.with-mask.ensures d) (seen.0 w.if-has_state.true))
      | else-has_state w ↦ rw w.mask-is (below_same P k d c.loop-colour.mask old (λ p. let is = seen.1 p in let bad : true ≡ false = sym is ∙ w.if-has_state.false in absurd (cc)))
    ]

pub returns : goal.returns
returns g c = λ f lt early. states_whole c.args.before.now c.loop-colour.colour c.loop-colour.mask (let e = c.colours-colours.ensures in let all = c.requires in omega arith) (c.loop-colour.invariant f lt early)
