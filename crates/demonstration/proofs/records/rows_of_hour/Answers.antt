use Rattle.std.proofs.Common.{◌+◌, ◌*◌}
use Rattle.std.proofs.lemmas.List.Sorted.{IsNonDecreasingBy-drop}
use Rattle.sig_base.specs.declared.values.Row.{Row}
use Rattle.demonstration.proofs.HourFacts.{cut_twice}
use Rattle.demonstration.proofs.records.rows_of_hour.Goals as goal

pub rows_before-requires-2 : goal.rows_before-requires-2
rows_before-requires-2 c =
    rw c.split_at.ensures.back (IsNonDecreasingBy-drop (λ (x : Row). x.at) c.rows_before.result c.args.rows.now c.requires.rise)

pub returns : goal.returns
returns c =
    cut_twice (36000 * c.args.hour) (36000 * c.args.hour + 36000) c.rows_before.result c.rows_before-2.result c.args.rows.now c.split_at.result.1.now c.split_at-2.result.0.now
    c.split_at.ensures.back c.split_at-2.ensures.front c.rows_before.ensures.within c.rows_before.ensures.point c.rows_before-2.ensures.within c.rows_before-2.ensures.point
