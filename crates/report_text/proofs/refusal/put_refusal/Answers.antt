use Rattle.report_text.proofs.refusal.put_refusal.Goals as goal

pub returns-in-MissingFile : goal.returns-in-MissingFile
returns-in-MissingFile g c = rw c.in-MissingFile.is c.put_reason-in-MissingFile.ensures
