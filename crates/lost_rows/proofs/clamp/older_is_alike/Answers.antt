use Rattle.std.proofs.Common.{arith}
use Rattle.lost_rows.specs.Credits.{AdmitsLost, HoldsLost}
use Rattle.lost_rows.specs.Decisions.{asked_by}
use Rattle.lost_rows.proofs.Alike.{asked_short, explained_alike, walked_alike}
use Rattle.lost_rows.proofs.clamp.older_is_alike.Goals as goal

pub returns : goal.returns
returns c m rule old new aheads p xs at ys b low high n laws short o order from later le tells same = (walked_alike m (asked_by rule) (HoldsLost old) (HoldsLost new) p p xs b low laws (asked_short rule short) o from (omega arith) same, explained_alike m rule (HoldsLost old) (HoldsLost new) (AdmitsLost aheads) p p xs at ys b low high n laws short o order from later (omega arith) le tells same)
