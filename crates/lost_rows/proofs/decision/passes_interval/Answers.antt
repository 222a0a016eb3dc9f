use Rattle.std.proofs.Common.{pos}
use Rattle.lost_rows.proofs.Deciding.{interval_kept}
use Rattle.lost_rows.proofs.decision.passes_interval.Goals as goal

pub returns : goal.returns
returns c = interval_kept c.args.asked (pos c.args.at) c.only-colours.result c.args.past.now c.args.ahead.now c.seen_at-other.result.some_false c.seen_at-own.result.some_true c.either.result c.only-colours.ensures c.seen_at-other.ensures.other c.seen_at-own.ensures.some c.either.ensures
