use Rattle.sig_base.specs.Numbers.{has_phase}
use Rattle.service_cut.proofs.Fitting.{cycles_fit}
use Rattle.service_cut.proofs.laws.cycles_fit.Goals as goal

pub returns : goal.returns
returns c known phases a b before rows h = cycles_fit known (has_phase phases) a b before rows h
