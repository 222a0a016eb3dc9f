use Rattle.delay_laws.proofs.Events.{event_is, preempt_is}
use Rattle.delay_laws.proofs.laws.events_are_whole.Goals as goal

pub returns : goal.returns
returns f = record { events = λ known p a b before r rest w. event_is known p before r a b rest w; preempts = λ known p a b t before part. preempt_is known p before a b t part }
