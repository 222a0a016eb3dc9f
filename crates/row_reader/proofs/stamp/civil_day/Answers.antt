use Rattle.std.proofs.Common.{arith, refl}
use Rattle.std.proofs.lemmas.Int.{ints}
use Rattle.row_reader.proofs.StampFacts.{civil_day-known, civil_day-low}
use Rattle.row_reader.proofs.stamp.civil_day.Goals as goal

pub returns-in-Ok-clause-value : goal.returns-in-Ok-clause-value
returns-in-Ok-clause-value c =
    let h = c.in-Ok.ensures in
    civil_day-known c.args.year c.args.month c.args.day _ _ _ _ _ _ c.to_unix_epoch_day.result _
    h.value.0 h.value.1 h.value.2 (omega (arith, ints)) (omega (arith, ints)) (omega (arith, ints)) (h.succeeds.0 refl)
    (rw c.to_plain.ensures at c.to_unix_epoch_day.ensures.value) (omega (arith, ints))

pub returns-in-Ok-clause-bound : goal.returns-in-Ok-clause-bound
returns-in-Ok-clause-bound c =
    let h = c.in-Ok.ensures in
    let low = civil_day-low c.args.year c.args.month c.args.day _ _ _ _ _ _ c.to_unix_epoch_day.result
    h.value.0 h.value.1 h.value.2 (omega (arith, ints)) (omega (arith, ints)) (omega (arith, ints)) (h.succeeds.0 refl)
    (rw c.to_plain.ensures at c.to_unix_epoch_day.ensures.value) in
    (omega (arith, ints, low), omega (arith, ints))
