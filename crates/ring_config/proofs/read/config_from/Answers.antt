use Rattle.toml.specs.View.{table_view}
use Rattle.ring_config.specs.Settings.{document}
use Rattle.ring_config.specs.Seen.{parts_seen}
use Rattle.ring_config.proofs.SoundLaws.{parts_are}
use Rattle.ring_config.proofs.read.config_from.Goals as goal

pub settled-requires : goal.settled-requires
settled-requires c =
    let are = parts_are (document (table_view c.args.table.now)) (parts_seen c.in_ok-parts.parts) c.in_ok-parts.ensures in
    record { sound = are.sound; names = are.names }
