use Rattle.toml.specs.View.{table_view}
use Rattle.std.proofs.Common.{◌∙◌}
use Rattle.ring_config.proofs.ConfigLaws.{config_is}
use Rattle.ring_config.proofs.StagedLaws.{config_stages}
use Rattle.ring_config.proofs.read.read_document.Goals as goal

pub returns-in-Ok-table_from_str : goal.returns-in-Ok-table_from_str
returns-in-Ok-table_from_str c =
    let here = c.in-Ok.ensures.cases in
    let read = rw here.0 at c.in-Ok-table_from_str.ensures.ok in
    rw (config_is c.args.bytes.now (table_view c.in-Ok-table_from_str.table) here.1 read ∙ config_stages (table_view c.in-Ok-table_from_str.table)) c.config_from.ensures
