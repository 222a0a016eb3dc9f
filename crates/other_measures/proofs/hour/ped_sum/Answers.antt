use Rattle.other_measures.proofs.hour.ped_sum.Goals as goal

pub returns-clause-detector : goal.returns-clause-detector
returns-clause-detector c = λ log first is. record {
  on = c.tenths.ensures log first is;
  undecided = c.tenths-2.ensures log first is;
}
