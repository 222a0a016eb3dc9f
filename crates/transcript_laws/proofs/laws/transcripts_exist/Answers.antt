use Rattle.transcript_laws.proofs.Transcripts.{fronts_are, transcripts_exist}
use Rattle.transcript_laws.proofs.laws.transcripts_exist.Goals as goal

pub returns-clause-exists : goal.returns-clause-exists
returns-clause-exists c = transcripts_exist

pub returns-clause-begins : goal.returns-clause-begins
returns-clause-begins c = fronts_are c.transcripts_are_one.ensures.begins
