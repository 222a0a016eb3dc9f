-- What the exit of a ? answers.
use Rattle.std.proofs.Common.{◌≡◌, Result, Ok, Err, ap}
use Rattle.std.specs.Result.{IsErrAnd}
use Rattle.sigaudit.specs.declared.status.Stopped.{Stopped}
use Rattle.sigaudit.specs.declared.status.Stopped.TheVariants.{Fault, Memory}

-- where the sink failed
pub fault_at : {T : Type 0} (r : Result T Stopped) → IsErrAnd r (λ e. e ≡ Fault) → r ≡ Err Fault
fault_at (Ok x) h = absurd h
fault_at (Err e) h = ap Err h

-- where memory ran out
pub memory_at : {T : Type 0} (r : Result T Stopped) → IsErrAnd r (λ e. e ≡ Memory) → r ≡ Err Memory
memory_at (Ok x) h = absurd h
memory_at (Err e) h = ap Err h
