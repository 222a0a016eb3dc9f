use Rattle.report_text.proofs.refusal.put_edit_refusal.Goals as goal

pub returns-in-OutOfWindow : goal.returns-in-OutOfWindow
returns-in-OutOfWindow g c = rw c.in-OutOfWindow.is c.put_reason.ensures

pub returns-in-TooManyRows : goal.returns-in-TooManyRows
returns-in-TooManyRows g c = rw c.in-TooManyRows.is c.put_reason-in-TooManyRows.ensures

pub returns-in-TooManyBlanks : goal.returns-in-TooManyBlanks
returns-in-TooManyBlanks g c = rw c.in-TooManyBlanks.is c.put_reason-in-TooManyBlanks.ensures
