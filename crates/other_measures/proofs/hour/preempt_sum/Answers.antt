use Rattle.other_measures.proofs.hour.preempt_sum.Goals as goal

pub returns-clause-states : goal.returns-clause-states
returns-clause-states c = λ log first is. record {
  input_on = c.tenths.ensures log first is;
  input_undecided = c.tenths-2.ensures log first is;
  rest = c.tenths-3.ensures log first is;
  entry = c.tenths-4.ensures log first is;
  track = c.tenths-5.ensures log first is;
  dwell = c.tenths-6.ensures log first is;
  undecided = c.tenths-7.ensures log first is;
}
