-- That some history agrees, at each known tenth.
use Rattle.std.proofs.Common.{◌≡◌, ℕ, ◌+◌, pos, true, length, get_or, arith}
use Rattle.reach.specs.Runs.{State, state}
use Rattle.gap_map.specs.Stretches.{known_at}
use Rattle.board.specs.Channels.{track}
use Rattle.board.specs.History.{events_at}
use Rattle.board.specs.Logs.{HourLog, first_tenth, end_tenth, no_spec}
use Rattle.board.specs.Places.{IsViewOf}
use Rattle.board.specs.Verdicts.{MayPass, PassStates}
use Rattle.board.proofs.Bridge.{agreeing_join}
use Rattle.board.proofs.Product.{choose}
use Rattle.board.proofs.Verdicts.{histories_are}
use Rattle.board.proofs.Within.{known_within}
use Rattle.rule_audit.specs.Judged.{HasRuns}

-- a run of each channel passes each known tenth, and so does one history
pub some_history : (log : HourLog) (view : HourLog) (x : ℕ) → IsViewOf log view → HasRuns log → known_at log.stretches x ≡ true → (w : ℕ → State) × PassStates log x w
some_history log view x is runs known =
    let f = first_tenth log.hour in
    let t = end_tenth log.hour in
    let (from, to) = known_within f t x log.stretches is.is_log.is_hour.follow known in
    let (ws, len, all) = choose (state 0 (pos 0)) (length log.specs) (MayPass log x) (λ i lt.
    let (s, hs, (u, run, au)) = runs i lt in
    let (v, first, rest) = (agreeing_join (track (get_or log.specs i no_spec)) (known_at log.stretches) (events_at log.rows) f (x + 1) t s u (omega arith) (omega arith)).0 run in
    (v, ((s, hs, first), (u, rest, au)))) in
    let w : ℕ → State = λ i. get_or ws i (state 0 (pos 0)) in
    (w, (histories_are log x is.is_log known w).1 all)
