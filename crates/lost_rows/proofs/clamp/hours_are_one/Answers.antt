use Rattle.lost_rows.specs.Credits.{AdmitsLost, HoldsLost}
use Rattle.lost_rows.proofs.Cutting.{walked_cut, walked_to_cut}
use Rattle.lost_rows.proofs.clamp.hours_are_one.Goals as goal

pub returns : goal.returns
returns c m r pasts aheads a xs p ys b j u low high = (walked_cut m r (HoldsLost pasts) a xs p ys b j u low high, walked_to_cut m (AdmitsLost aheads) a xs p ys b j u low high)
