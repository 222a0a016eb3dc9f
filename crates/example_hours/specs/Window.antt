-- The window of the examples.
use Rattle.std.specs.Prelude.{◌≡◌, length}
use Rattle.hour_store.specs.Store.{IsStore, Store}
use Rattle.ring_config.specs.Settings.{Settings}
use Rattle.ring_config.specs.Sound.{IsSound}

-- the window of the configuration and of the store has two hours
pub record IsWindowOfTwo (c : Settings) (s : Store) : Type 0 where
  pub sound : IsSound c
  pub is_store : IsStore s
  pub configured : c.window.hours ≡ 2
  pub stored : length s.hours ≡ 2
