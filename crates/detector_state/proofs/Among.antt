-- What a free channel may be before a row.
use Rattle.std.proofs.Common.{◌≡◌, ℕ, ◌+◌, ◌-◌, ◌<◌, pos, ◌≤ℤ◌, [], length, get_or, arith}
use Rattle.std.proofs.lemmas.Int.{ints}
use Rattle.colour_machine.specs.Rules.{IsMachine}
use Rattle.channel_tables.proofs.Machines.{spec_machine}
use Rattle.reach.specs.Runs.{State}
use Rattle.board.specs.Channels.{AreSpecs}
use Rattle.board.specs.History.{events_at}
use Rattle.board.specs.Logs.{no_spec}
use Rattle.board.proofs.Tracks.{spec_lettered}
use Rattle.board.proofs.Plain.{agreeing_early}
use Rattle.signal_log.specs.Log.{Log, track_at, window_end}
use Rattle.signal_log.proofs.Joined.{IsCompletedPlace, IsReachedPlace, after_events, events_after}
use Rattle.signal_log.proofs.Runs.{agreeing_colour, from_place, to_place, upto_place}
use Rattle.detector_state.specs.Free.{IsFree}
use Rattle.detector_state.specs.Tells.{LooksBackAmongRows}
use Rattle.detector_state.proofs.Free.{run_is}
use Rattle.detector_state.proofs.Filling.{fill, fill-agrees, fill-length, fill_small}

completed_place : (log : Log) (i x j : ℕ) (v : State) → AreSpecs log.specs → i < length log.specs → x < window_end log → IsFree (track_at log i).rules → IsReachedPlace log i x j v → IsCompletedPlace log i x j v
completed_place log i x j v are lt small free (s, bw, g) =
    let k = track_at log i in
    let upto = upto_place (events_at log.rows) x j in
    let given = from_place (events_at log.rows) x j in
    let n = window_end log - x in
    let laws : IsMachine k.rules = spec_machine (get_or log.specs i no_spec) (are.fit i no_spec lt) in
    let few = (agreeing_colour k log.known upto 0 (x + 1) s v laws g).0 bw.0 in
    let early : v.entry ≤ℤ pos x = (let e = agreeing_early k log.known upto 0 (x + 1) s v g bw.1 in omega (arith, ints)) in
    let lists = fill k log.known given [] n x in
    let len : length lists ≡ n = fill-length k log.known given [] n x in
    let (u, run) = run_is k.rules free (pos x) lists v few early (fill_small k log.known given (spec_lettered (get_or log.specs i no_spec)) [] n x tt) in
    let whole : x + length lists ≡ window_end log = omega arith in
    (u, (lists, whole, (fill-agrees k log.known given [] n x, run)))

pub look_back_among_rows : LooksBackAmongRows
look_back_among_rows log i x j v are has lt small known free =
    let place = λ (s : State). to_place (track_at log i) log.known (events_at log.rows) 0 x j s v (omega arith) known in (
      (λ may. let (s, bw, g) = (after_events log i x j v lt small known may).0 in let (a, h, st) = (place s).0 g in (a, (s, bw, h), st)),
      λ (a, (s, bw, h), st).
          let r : IsReachedPlace log i x j v = (s, bw, (place s).1 (a, h, st)) in
          events_after log i x j v are has lt small known r (completed_place log i x j v are lt small free r),
    )
