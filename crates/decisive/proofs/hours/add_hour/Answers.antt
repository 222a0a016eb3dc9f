use Rattle.std.proofs.Common.{◌+◌}
use Rattle.board.specs.Logs.{first_tenth}
use Rattle.decisive.proofs.Judging.{both_ok}
use Rattle.decisive.proofs.Placed.{placed_on, rank_on}
use Rattle.decisive.proofs.hours.add_hour.Goals as goal

pub returns-clause-placed : goal.returns-clause-placed
returns-clause-placed g c = both_ok c.append.result _ _ _ (λ rows ss f k x n p. placed_on c.args.store.now c.args.told.now c.in_ok-more.more c.append.new.told f (first_tenth c.args.hour) (first_tenth (c.args.hour + 1)) k x n c.in_ok-more.ensures.tells c.in_ok-more.ensures.few rows ss p) c.append.ensures.rows c.append.ensures.stretches

pub returns-clause-rank : goal.returns-clause-rank
returns-clause-rank g c = both_ok c.append.result _ _ _ (λ rows ss f k x n p. rank_on c.args.told.now c.in_ok-more.more c.append.new.told f (first_tenth c.args.hour) x n rows p.place) c.append.ensures.rows c.append.ensures.stretches
