-- What a configuration keeps, and the settings that it stands for.
use Rattle.std.specs.Prelude.{◌≡◌, map, string_bytes}
use Rattle.ring_config.specs.declared.config.Config.TheInside.{Inside}
use Rattle.ring_config.specs.Settings.{Settings}
use Rattle.ring_config.specs.Sound.{IsSound}

abbrev pub settings_in : Inside → Settings
settings_in c = record {
  window = c.window;
  signal = string_bytes c.signal;
  coordination = c.coordination;
  phases = c.phases.items;
  peds = c.peds.items;
  overlaps = c.overlaps.items;
  preempts = c.preempts.items;
  conflicts = c.conflicts.items;
  allows = c.allows.items;
  specs = c.specs.items;
  intervals = c.intervals.items;
  approaches = map (λ e. e.1) c.approaches.entries;
}

-- each approach stands under its name
pub record IsKept (c : Inside) : Type 0 where
  pub sound : IsSound (settings_in c)
  pub named : map (λ e. e.0.items) c.approaches.entries ≡ map (λ e. e.1.name) c.approaches.entries
