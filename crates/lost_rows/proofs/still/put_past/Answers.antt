use Rattle.std.proofs.Common.{arith, inl, inr, ◌≡◌, ◌∙◌}
use Rattle.lost_rows.specs.Stills.{LostFrom}
use Rattle.lost_rows.proofs.Stills.{after_is, below_more}
use Rattle.lost_rows.proofs.still.put_past.Goals as goal

pub loop-colour-preserved : goal.loop-colour-preserved
loop-colour-preserved g c =
    let m = g.M.Machine.rules c.args.machine.now in (
      c.in_ok-put_colour.ensures.colours ∙ c.loop-colour.invariant.0,
      λ u. below_more (λ k. LostFrom m c.args.asked c.args.still.from c.args.still.to c.args.past.now k u) c.loop-colour.colour _ _ _ (c.loop-colour.invariant.1 u) (c.in_ok-put_colour.ensures.states u),
    )

pub returns-clause-states : goal.returns-clause-states
returns-clause-states g c =
    let m = g.M.Machine.rules c.args.machine.now in
    let all : c.loop-colour.colour ≡ m.colours = omega (arith, c.colours-colour-end.ensures) in
    λ u. let i = c.loop-colour.invariant.1 u in let e = after_is m c.args.asked c.args.still.from c.args.still.to c.args.past.now c.loop-colour.colour u all in (
      λ x. elim (i.0 x) [ inl y ↦ inl y | inr y ↦ inr (e.1 y) ],
      λ x. i.1 (elim x [ inl y ↦ inl y | inr y ↦ inr (e.0 y) ]),
    )
