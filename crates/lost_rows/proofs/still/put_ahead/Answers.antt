use Rattle.std.proofs.Common.{arith, inl, inr, ◌≡◌}
use Rattle.lost_rows.proofs.Stills.{before_all}
use Rattle.lost_rows.proofs.still.put_ahead.Goals as goal

pub returns-clause-states : goal.returns-clause-states
returns-clause-states g c =
    let m = g.M.Machine.rules c.args.machine.now in
    let laws = g.met.M.Machine.laws c.args.machine.now in
    let all : c.loop-colour.colour ≡ m.colours = omega (arith, c.colours-colour-end.ensures) in
    λ s. let i = c.loop-colour.invariant.1 s in let e = before_all m c.args.still.from c.args.still.to c.args.ahead.now c.loop-colour.colour s laws all in (
      λ x. elim (i.0 x) [ inl y ↦ inl y | inr y ↦ inr (e.0 y) ],
      λ x. i.1 (elim x [ inl y ↦ inl y | inr y ↦ inr (e.1 y) ]),
    )
