-- What crosses a point between two hours at a stop bar.
use Rattle.std.specs.Prelude.{Option, List}
use Rattle.stop_bar.specs.declared.windows.OpenGreen.{OpenGreen}
use Rattle.stop_bar.specs.declared.windows.Windows.{Windows}

-- what is under way at a stop bar at a point between two hours: the green that is open, and the services whose red window isn't over
pub record Crossing : Type 0 where
  pub green : Option OpenGreen
  pub pending : List Windows
