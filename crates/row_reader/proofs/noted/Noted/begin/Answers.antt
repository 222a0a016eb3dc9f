use Rattle.row_reader.proofs.NotedFacts.{all-more}
use Rattle.row_reader.proofs.noted.Noted.begin.Goals as goal

pub returns-clause-all : goal.returns-clause-all
returns-clause-all c = all-more c.args.run.now c.args.row _ _ _ c.in_ok-note_all.ensures c.in_ok-note.ensures.with
