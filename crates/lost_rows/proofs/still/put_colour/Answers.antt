use Rattle.std.proofs.Common.{inl, inr}
use Rattle.reach.proofs.Alone.{on_ok}
use Rattle.lost_rows.proofs.Stills.{entered_is}
use Rattle.lost_rows.proofs.still.put_colour.Goals as goal

pub returns-clause-states : goal.returns-clause-states
returns-clause-states g c =
    let m = g.M.Machine.rules c.args.machine.now in
    let laws = g.met.M.Machine.laws c.args.machine.now in
    on_ok c.put_each.result _ _ (λ h u. let e = entered_is m c.args.asked c.args.still.from c.args.still.to c.args.past.now c.args.colour c.times_of-times.result c.changes_of.result _ c.past_leave.new.into c.colours.result u laws c.times_of-times.ensures c.colours.ensures c.changes_of.ensures c.new-tenths.ensures c.in_ok-past_leave.ensures in (
      λ x. elim ((h u).0 x) [ inl y ↦ inl y | inr y ↦ inr (e.0 y) ],
      λ x. (h u).1 (elim x [ inl y ↦ inl y | inr y ↦ inr (e.1 y) ]),
    )) c.put_each.ensures.states
