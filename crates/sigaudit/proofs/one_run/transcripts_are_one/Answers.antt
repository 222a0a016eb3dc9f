use Rattle.sigaudit.proofs.OneFacts.{begins_with_first, one_transcript}
use Rattle.sigaudit.proofs.one_run.transcripts_are_one.Goals as goal

pub returns-clause-one : goal.returns-clause-one
returns-clause-one c = one_transcript (record { row = c.some_history_agrees.ensures.one; lines = c.reports_are_one.ensures.lines; parts = c.parts_are_one.ensures; window = c.window_is_one.ensures })

pub returns-clause-begins : goal.returns-clause-begins
returns-clause-begins c = begins_with_first (record { row = c.some_history_agrees.ensures.one; lines = c.reports_are_one.ensures.lines; parts = c.parts_are_one.ensures; window = c.window_is_one.ensures })
