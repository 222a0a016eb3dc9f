-- The answers of a run.
use Rattle.std.specs.Prelude.{ℕ, Result, Ok, Err}
use Rattle.sigaudit.specs.declared.status.Status.{Status}
use Rattle.sigaudit.specs.declared.status.Status.TheVariants.{Done, SomeRefused, Usage, BadConfig, Fault, Memory, NoFile}
use Rattle.sigaudit.specs.declared.status.Ended.{Ended}
use Rattle.sigaudit.specs.declared.status.Ended.TheVariants as ended
use Rattle.sigaudit.specs.declared.status.Stopped.{Stopped}
use Rattle.sigaudit.specs.declared.status.Stopped.TheVariants as stopped

abbrev pub status_of_ended : Ended → Status
status_of_ended ended.Done = Done
status_of_ended ended.SomeRefused = SomeRefused
status_of_ended ended.Usage = Usage
status_of_ended ended.BadConfig = BadConfig
status_of_ended ended.NoFile = NoFile

abbrev pub status_of_stopped : Stopped → Status
status_of_stopped stopped.Fault = Fault
status_of_stopped stopped.Memory = Memory

abbrev pub status_of_run : Result Ended Stopped → Status
status_of_run (Ok e) = status_of_ended e
status_of_run (Err s) = status_of_stopped s

-- the exit status of each answer
abbrev pub exit_status : Status → ℕ
exit_status Done = 0
exit_status SomeRefused = 1
exit_status Usage = 2
exit_status BadConfig = 3
exit_status Fault = 4
exit_status Memory = 5
exit_status NoFile = 6
