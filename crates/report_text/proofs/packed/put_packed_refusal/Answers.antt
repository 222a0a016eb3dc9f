use Rattle.report_text.proofs.packed.put_packed_refusal.Goals as goal

pub returns-in-Short : goal.returns-in-Short
returns-in-Short g c = rw c.in-Short.is c.put_reason.ensures

pub returns-in-WrongSignal : goal.returns-in-WrongSignal
returns-in-WrongSignal g c = rw c.in-WrongSignal.is c.put_reason-in-WrongSignal.ensures

pub returns-in-WrongHour : goal.returns-in-WrongHour
returns-in-WrongHour g c = rw c.in-WrongHour.is c.put_reason-in-WrongHour.ensures

pub returns-in-Extra : goal.returns-in-Extra
returns-in-Extra g c = rw c.in-Extra.is c.put_reason-in-Extra.ensures
