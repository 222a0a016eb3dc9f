use Rattle.strand_search.proofs.ways.state_between.Goals as goal

pub returns : goal.returns
returns c = rw c.machine_of-machine.ensures at c.passage_state.ensures
