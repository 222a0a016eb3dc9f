use Rattle.std.proofs.Common.{◌≡◌, ◌+◌, max, arith, rules}
use Rattle.other_measures.proofs.Starts.{places_all, places_more}
use Rattle.other_measures.proofs.carry.places.Goals as goal

pub loop-number-preserved : goal.loop-number-preserved
loop-number-preserved c =
    let i = c.loop-number.number-index in
    let most : c.max-places.result ≡ max c.loop-number.places (c.from.result + 1) = search rules in
    record {
      rest = places_more c.args.numbers.now i 0 c.loop-number.places c.max-places.result _ c.loop-number-test.true (omega arith) c.loop-number.invariant.rest;
      few = omega (arith, c.type_inv.numbers i);
    }

pub returns-clause-value : goal.returns-clause-value
returns-clause-value c = places_all c.args.numbers.now c.loop-number.number-index c.loop-number.places c.loop-number-test.false c.loop-number.invariant.rest
