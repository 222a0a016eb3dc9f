use Rattle.sigaudit.proofs.HourFacts.{said_hour}
use Rattle.sigaudit.proofs.file.put_pack.Goals as goal

pub pack_rows-requires-clause-hour : goal.pack_rows-requires-clause-hour
pack_rows-requires-clause-hour g c = said_hour _ _ _ c.in-Ok.ensures.ok
