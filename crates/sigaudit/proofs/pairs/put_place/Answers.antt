use Rattle.std.proofs.Common.{refl}
use Rattle.sigaudit.proofs.PairFacts.{found_stops, pairs_in}
use Rattle.sigaudit.proofs.StopFacts.{fault_at, memory_at}
use Rattle.sigaudit.proofs.pairs.put_place.Goals as goal

pub returns-in_err-pairs-clause-text : goal.returns-in_err-pairs-clause-text
returns-in_err-pairs-clause-text g c = rw (memory_at c.from_residual.result c.from_residual.ensures.1) refl

pub put_pairs-requires-clause-pairs : goal.put_pairs-requires-clause-pairs
put_pairs-requires-clause-pairs g c =
    let s = c.args.session.now in
    rw (c.config-config.ensures.value, c.list.ensures) (pairs_in s.config s.store c.args.rule c.args.at c.in_ok-pairs.pairs c.config-config.ensures.hours c.in_ok-pairs.ensures.pairs)

pub returns-in_err-put_pairs-clause-text : goal.returns-in_err-put_pairs-clause-text
returns-in_err-put_pairs-clause-text g c =
    let s = c.args.session.now in
    rw (fault_at c.from_residual-in_err-put_pairs.result c.from_residual-in_err-put_pairs.ensures.1)
    (found_stops s.config c.config-config.result.now s.store c.args.rule c.args.at c.in_ok-pairs.pairs c.list.result.now _ _ c.config-config.ensures.value c.list.ensures c.in_ok-pairs.ensures.history c.in_ok-pairs.ensures.pairs c.in_err-put_pairs.ensures)
