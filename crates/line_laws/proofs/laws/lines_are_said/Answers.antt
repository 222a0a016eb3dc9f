use Rattle.line_laws.proofs.Words.{lines_have_words}
use Rattle.line_laws.proofs.Lines.{lines_said}
use Rattle.line_laws.proofs.laws.lines_are_said.Goals as goal

pub returns : goal.returns
returns f = record { words = lines_have_words; said = lines_said }
