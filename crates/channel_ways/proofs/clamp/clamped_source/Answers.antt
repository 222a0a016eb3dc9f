use Rattle.std.proofs.lemmas.Int.{to_z-of_z}
use Rattle.sig_base.proofs.Common.{ok_more}
use Rattle.channel_ways.proofs.clamp.clamped_source.Goals as goal

pub returns-clause-way : goal.returns-clause-way
returns-clause-way g c =
    let rl = c.ranges.limit in
    let there = simp to_z-of_z at c.in_ok-there.ensures in
    ok_more _ _ c.walk_source.result (λ s h. (c.in_ok-there.there, there.2, h)) c.walk_source.ensures.way
