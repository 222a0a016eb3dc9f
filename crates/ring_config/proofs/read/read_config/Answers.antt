use Rattle.ring_config.proofs.PlaceLaws.{not_toml}
use Rattle.ring_config.proofs.read.read_config.Goals as goal

pub returns-clause-not_toml : goal.returns-clause-not_toml
returns-clause-not_toml c = not_toml c.args.bytes.now c.read_document.result c.read_document.ensures
