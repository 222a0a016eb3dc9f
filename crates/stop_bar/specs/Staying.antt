-- What crosses a point, in other logs.
use Rattle.std.specs.Prelude.{ℕ, ◌≡◌, ◌≤◌, List}
use Rattle.signal_log.specs.Log.{Log}
use Rattle.detector_state.specs.Tells.{TellSameUpto}
use Rattle.detector_state.specs.declared.tenths.OnTenths.{OnTenths}
use Rattle.detector_state.specs.Hours.{AreTenths}
use Rattle.stop_bar.specs.declared.windows.Windows.{Windows}
use Rattle.stop_bar.specs.Windows.{ArePending, services_of}

-- the numbers of a range depend on the tenths up to its end alone
abbrev pub TenthsStay : Type 0
TenthsStay = (a b : Log) (i t low high : ℕ) (n : OnTenths) → TellSameUpto a b t → high ≤ t → AreTenths a i low high n → AreTenths b i low high n

-- and a range has one of each
abbrev pub TenthsAreOne : Type 0
TenthsAreOne = (log : Log) (i low high : ℕ) (n m : OnTenths) → AreTenths log i low high n → AreTenths log i low high m → n ≡ m

-- so the numbers of the services that wait at a tenth are one for one log
abbrev pub PendingAreOne : Type 0
PendingAreOne = (log : Log) (i t : ℕ) (vs ws : List Windows) → ArePending log i t vs → ArePending log i t ws → services_of vs ≡ services_of ws → vs ≡ ws
