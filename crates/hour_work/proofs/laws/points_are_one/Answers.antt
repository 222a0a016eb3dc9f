use Rattle.hour_work.proofs.MovedLaws.{carries_one, carry_same, future_same, futures_one}
use Rattle.hour_work.proofs.laws.points_are_one.Goals as goal

pub returns-clause-carries : goal.returns-clause-carries
returns-clause-carries c = carries_one

pub returns-clause-futures : goal.returns-clause-futures
returns-clause-futures c = futures_one

pub returns-clause-same_carry : goal.returns-clause-same_carry
returns-clause-same_carry c = carry_same

pub returns-clause-same_future : goal.returns-clause-same_future
returns-clause-same_future c = future_same
