use Rattle.filling_pair.proofs.keeps.keeps_by.Goals as goal

pub returns-in-EndOfTenth : goal.returns-in-EndOfTenth
returns-in-EndOfTenth c = rw c.in-EndOfTenth.is (c.keeps_at_end.ensures c.args.specs.now c.args.rows.now)
