use Rattle.delay_laws.proofs.Delays.{delay_is, ped_is}
use Rattle.delay_laws.proofs.laws.delays_are_whole.Goals as goal

pub returns : goal.returns
returns f = record { delays = delay_is; peds = λ known p a b t before part. ped_is known p a b before t part }
