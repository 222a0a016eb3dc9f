use Rattle.std.proofs.Common.{◌≡◌, option_copied, rules}
use Rattle.signal_log.specs.Points.{rows_or_none}
use Rattle.strand_search.proofs.Told.{hour_told}
use Rattle.strand_search.proofs.part.hour_part.Goals as goal

pub returns-clause-part : goal.returns-clause-part
returns-clause-part g c =
    let rows : c.unwrap_or.result.now ≡ rows_or_none (option_copied c.open_hour-rows.result) = search rules in
    hour_told c.args.store.now c.args.hour c.open_hour-rows.result c.is_some.result c.blanked.result.now c.unwrap_or.result.now c.in_ok-cut.cut.items c.blanked.ensures.store c.requires c.open_hour-rows.ensures.rows c.open_hour-rows.ensures.of_hour c.is_some.ensures c.blanked.ensures.value rows c.in_ok-cut.ensures.cut
