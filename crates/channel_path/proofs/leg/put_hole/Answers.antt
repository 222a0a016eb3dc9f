use Rattle.std.proofs.Common.{pos, ◌<◌, ◌^◌, arith, rules}
use Rattle.std.proofs.lemmas.Int.{ints}
use Rattle.channel_path.proofs.Holes.{end_more}
use Rattle.channel_path.proofs.leg.put_hole.Goals as goal

pub returns-in_ok-push-in-Gap-clause-end : goal.returns-in_ok-push-in-Gap-clause-end
returns-in_ok-push-in-Gap-clause-end c =
    let low : c.in-Gap.to < 2 ^ 32 = search rules in
    let to = c.from-in-Gap.ensures in
    λ e. rw c.in_ok-push-in-Gap.ensures.items (end_more (pos (2 ^ 32)) c.args.holes.now.items _ e (omega (arith, ints)))
