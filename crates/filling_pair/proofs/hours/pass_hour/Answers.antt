use Rattle.filling_pair.proofs.hours.pass_hour.Goals as goal

pub returns-clause-passed : goal.returns-clause-passed
returns-clause-passed g c = λ b more u. rw (c.rows_of_hour-rows.ensures.rows, c.blanked.ensures.value) at (c.pass_rows.ensures.passed b more u)
