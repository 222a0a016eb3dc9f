use Rattle.session.proofs.forward.next_states.Goals as goal

pub states_after-requires-clause-was : goal.states_after-requires-clause-was
states_after-requires-clause-was g c = c.told_of-was.ensures c.args.config.now c.args.store.now c.requires.told
