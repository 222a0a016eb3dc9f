use Rattle.std.proofs.Common.{refl}
use Rattle.service_cut.specs.Services.{service_begun_of}
use Rattle.stop_bar.proofs.at_bar.AtBar.start.Goals as goal

pub returns : goal.returns
unfolding service_begun_of
returns c = rw c.new.ensures.items (λ log i p phases. record { green = tt; tenths = tt; waiting = refl; numbers = tt })
