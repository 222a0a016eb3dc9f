use Rattle.toml.proofs.Views.{table_get}
use Rattle.ring_config.proofs.format.reading.value_at.Goals as goal

pub returns : goal.returns
returns c = rw c.text.ensures at (table_get c.get.result c.text.result.now c.args.entry.now.members.now.entries c.get.ensures.value)
