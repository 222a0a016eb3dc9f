use Rattle.std.proofs.Common.{ap, ◌∙◌}
use Rattle.hour_sweep.specs.Passes.{both_after, both_cleared, swept}
use Rattle.hour_sweep.proofs.Pairs.{swept_both}
use Rattle.hour_sweep.proofs.both.sweep_both.Goals as goal

pub returns-clause-one : goal.returns-clause-one
returns-clause-one g c =
    let start = ap (λ p. swept (both_after g.A.Watch.after g.B.Watch.after) (both_cleared g.A.Watch.cleared g.B.Watch.cleared) c.args.stretches.now c.args.rows.now p) c.of-both.ensures in
    ap (λ p. p.0) (c.into_parts.ensures ∙ c.in_ok-sweep.ensures ∙ start ∙ swept_both g.A.Watch.after g.B.Watch.after g.A.Watch.cleared g.B.Watch.cleared c.args.stretches.now c.args.rows.now c.args.one c.args.other)

pub returns-clause-other : goal.returns-clause-other
returns-clause-other g c =
    let start = ap (λ p. swept (both_after g.A.Watch.after g.B.Watch.after) (both_cleared g.A.Watch.cleared g.B.Watch.cleared) c.args.stretches.now c.args.rows.now p) c.of-both.ensures in
    ap (λ p. p.1) (c.into_parts.ensures ∙ c.in_ok-sweep.ensures ∙ start ∙ swept_both g.A.Watch.after g.B.Watch.after g.A.Watch.cleared g.B.Watch.cleared c.args.stretches.now c.args.rows.now c.args.one c.args.other)
