use Rattle.std.proofs.Common.{◌≡◌, ◌∙◌}
use Rattle.lost_rows.specs.Stills.{LostTo}
use Rattle.lost_rows.proofs.Stills.{below_where, last_is}
use Rattle.lost_rows.proofs.still.raise_colour.Goals as goal

pub loop-next-preserved : goal.loop-next-preserved
loop-next-preserved g c =
    let m = g.M.Machine.rules c.args.machine.now in
    let mask = c.changes_of-mask.result in (
      c.raise_by.ensures.colours ∙ c.loop-next.invariant.0,
      λ s. below_where (λ d. LostTo m c.args.still.from c.args.still.to c.args.ahead.now c.args.colour d s.entry) (s.colour ≡ c.args.colour) c.loop-next.next _ _ _ _ (c.loop-next.invariant.1 s) (c.raise_by.ensures.states s) (last_is m c.args.still.from c.args.still.to c.args.ahead.now c.args.colour c.loop-next.next c.floor-floor.result mask c.has.result c.latest_if-latest.result c.last_in.result s.entry c.floor-floor.ensures c.changes_of-mask.ensures c.has.ensures (rw c.latest.ensures at c.latest_if-latest.ensures) c.last_in.ensures),
    )
