-- An hour of a store is one of its log.
use Rattle.std.proofs.Common.{refl, ap}
use Rattle.signal_log.proofs.Hour.{hour_same}
use Rattle.signal_log.proofs.Calls.{hour_told}
use Rattle.board.specs.History.{letters}
use Rattle.board.specs.Logs.{no_spec}
use Rattle.detector_state.specs.Hours.{HoursFit}

pub hours_fit : HoursFit
hours_fit specs s i hour rows blanks ss pasts are lt fit has cut at =
    let same = hour_same s hour rows blanks ss has cut in (
      λ k. record {
        is_hour = hour_told hour rows blanks ss fit cut;
        known = λ x l u. (same x l u).0;
        events = λ x l u there. ap (λ es. letters k es) ((same x l u).1 there);
      },
      at.states i lt,
      record { within = lt; fits = are.fit i no_spec lt; same = refl },
    )
