-- Histories of which no row was lost.
use Rattle.std.specs.Prelude.{◌≡◌}
use Rattle.board.specs.History.{History}
use Rattle.signal_log.specs.Log.{AgreesWith, Log}
use Rattle.lost_rows.specs.Marked.{LosesRows, MarkedHistory, plain}

-- a history of which no row was lost agrees with the log, and each that agrees is one
pub record NoneLostAgrees : Type 0 where
  pub to : (log : Log) (h : MarkedHistory) → LosesRows log h 0 → AgreesWith log (plain h)
  pub back : (log : Log) (h : History) → AgreesWith log h → (m : MarkedHistory) × LosesRows log m 0 × (plain m ≡ h)
